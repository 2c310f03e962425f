pub mod Bounds
pub mod Front
pub mod Text
pub mod PriceBack
