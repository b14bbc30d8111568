pub mod Versions
pub mod Opening
pub mod Packed
