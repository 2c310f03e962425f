pub mod Decodes
pub mod Claim
