pub mod Fields
pub mod Keepers
pub mod Never
pub mod Numbered
pub mod Reported
pub mod Single
