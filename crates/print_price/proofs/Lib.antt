pub mod Texts
pub mod PriceBack
