pub mod Fields
pub mod Letters
pub mod Sides
pub mod ByKind
pub mod Listing
pub mod Sided
pub mod Prints
