pub mod History
pub mod Keeper
pub mod Refusal
pub mod State
