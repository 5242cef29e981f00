pub mod Handed
pub mod Laid
pub mod Looked
pub mod Mode
pub mod Write
