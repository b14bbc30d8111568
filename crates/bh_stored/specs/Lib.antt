pub mod Cells
pub mod Fits
pub mod Stored
pub mod Stores
