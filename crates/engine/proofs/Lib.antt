pub mod Numbers
pub mod Steps
pub mod TradeOnly
pub mod TradeCalls
