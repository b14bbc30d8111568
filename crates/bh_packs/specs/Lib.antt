pub mod Packs
pub mod Stands
pub mod Sums
