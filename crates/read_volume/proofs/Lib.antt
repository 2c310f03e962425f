pub mod Volumes
pub mod VolumeBack
pub mod Shown
