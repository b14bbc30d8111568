pub mod Facts
pub mod Recalled
