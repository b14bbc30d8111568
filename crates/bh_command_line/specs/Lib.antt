pub mod Carrying
pub mod Input
pub mod Packs
