pub mod Rows
pub mod Parts
pub mod Owned
pub mod Moves
