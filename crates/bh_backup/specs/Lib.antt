pub mod Copies
pub mod Leftovers
pub mod Names
pub mod Packs
