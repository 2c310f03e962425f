pub mod SideBack
pub mod Short
pub mod Columns
