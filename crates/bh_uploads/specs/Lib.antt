pub mod Rows
pub mod Found
pub mod Joining
pub mod Writes
pub mod Purging
