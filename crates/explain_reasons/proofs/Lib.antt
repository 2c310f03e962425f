pub mod Exactly
