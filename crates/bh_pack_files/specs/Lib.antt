pub mod Files
pub mod Guard
pub mod Names
pub mod Note
