pub mod Storing
pub mod Asking
pub mod Remembering
pub mod Steps
pub mod Offering
pub mod Receiving
pub mod Operating
pub mod Documented
pub mod Leaving
pub mod Piecing
mod Cutting
