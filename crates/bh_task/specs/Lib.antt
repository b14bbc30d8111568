pub mod Doors
pub mod Places
pub mod Tasks
