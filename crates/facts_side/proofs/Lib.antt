pub mod Sets
pub mod Short
