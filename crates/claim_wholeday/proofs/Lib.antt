pub mod Prints
pub mod Decoded
pub mod Lists
pub mod WholeDay
pub mod Needed
