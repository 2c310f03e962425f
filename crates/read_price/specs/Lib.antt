pub mod Digits
pub mod Price
