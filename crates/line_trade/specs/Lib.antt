pub mod TradeLine
pub mod Quick
