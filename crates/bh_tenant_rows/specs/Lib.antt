pub mod Shown
pub mod Owned
pub mod Brought
