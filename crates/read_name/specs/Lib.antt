pub mod Name
pub mod Head
