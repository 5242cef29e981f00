pub mod Code
pub mod Known
pub mod Layout
