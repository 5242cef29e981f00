pub mod Buffer
pub mod Code
pub mod Frame
pub mod Out
pub mod Rules
