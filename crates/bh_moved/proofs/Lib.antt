pub mod OwnRows
pub mod Owned
pub mod Texts
pub mod Steps
pub mod Chains
pub mod Settling
pub mod Telling
pub mod Calling
