pub mod Capacities
pub mod Fixed
pub mod View
