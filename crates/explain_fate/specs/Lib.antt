pub mod Explained
pub mod Read
