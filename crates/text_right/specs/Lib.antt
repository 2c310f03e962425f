pub mod Justified
