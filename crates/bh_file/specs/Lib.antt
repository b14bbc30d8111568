pub mod Opened
pub mod Progress
pub mod Watched
