pub mod Clocks
pub mod Commands
pub mod Files
pub mod Subcommands
