pub mod Only
pub mod Revisions
pub mod Rows
pub mod Single
pub mod Table
pub mod Tags
