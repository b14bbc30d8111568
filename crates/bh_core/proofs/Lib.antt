pub mod Choosing
pub mod Completing
pub mod Cutting
pub mod Finding
pub mod Ordered
pub mod Writing
