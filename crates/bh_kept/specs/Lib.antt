pub mod Closings
pub mod Copies
pub mod Cutting
pub mod Freeing
pub mod Kept
pub mod Over
