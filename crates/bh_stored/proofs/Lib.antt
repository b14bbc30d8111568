mod Suited
pub mod Fitted
mod Reading
