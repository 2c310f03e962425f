pub mod Plain
pub mod Cut
