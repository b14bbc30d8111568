pub mod Events
pub mod Flaws
pub mod Given
pub mod Lines
pub mod Names
pub mod Operators
pub mod Orders
