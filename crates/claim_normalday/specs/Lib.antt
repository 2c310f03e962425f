pub mod Prints
pub mod Claim
