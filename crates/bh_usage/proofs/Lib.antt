pub mod Asked
pub mod KeyNames
pub mod Telling
