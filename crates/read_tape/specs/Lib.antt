pub mod Tape
pub mod Block
pub mod Pieces
