pub mod Deciding
pub mod Taking
