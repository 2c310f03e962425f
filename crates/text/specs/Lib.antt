-- Texts as lists of bytes: how they are quoted, chosen, written and read.
pub mod Bytes
pub mod Pick
pub mod Put
pub mod Decimal
pub mod Reading
