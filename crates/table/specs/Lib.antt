pub mod Dispatch
pub mod Table
pub mod Tags
