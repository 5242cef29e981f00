pub mod Laws
pub mod Only
pub mod Rooms
pub mod Single
pub mod Views
