pub mod TailBack
