pub mod Fates
pub mod Agree
pub mod Exactly
pub mod Prints
pub mod Numbers
