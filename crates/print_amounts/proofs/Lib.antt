pub mod Laying
pub mod Digits
pub mod Prices
pub mod Volumes
