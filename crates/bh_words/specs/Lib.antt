pub mod Commands
pub mod Lines
pub mod Numbers
pub mod Options
pub mod Readings
pub mod Sizes
