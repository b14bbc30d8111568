pub mod Making
pub mod Migration
pub mod Tallying
pub mod Listing
