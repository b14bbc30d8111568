pub mod Documents
pub mod Operating
pub mod Seeing
pub mod Stored
pub mod Changing
pub mod Responses
