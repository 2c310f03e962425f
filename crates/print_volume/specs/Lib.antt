pub mod Reading
pub mod Form
