pub mod Text
pub mod Layers
pub mod Laying
