pub mod Lengths
pub mod VolumeBack
pub mod Forms
