pub mod Short
mod Table
