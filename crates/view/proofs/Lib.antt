pub mod Giving
pub mod GivingBy
pub mod HoldersMut
pub mod HoldingMut
pub mod Laws
pub mod Making
pub mod Single
pub mod Walking
