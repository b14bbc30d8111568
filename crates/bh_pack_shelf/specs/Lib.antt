pub mod Copied
pub mod Opened
pub mod Places
pub mod Rows
