pub mod Documents
pub mod Heads
pub mod Members
pub mod Pages
pub mod Requests
pub mod Shapes
