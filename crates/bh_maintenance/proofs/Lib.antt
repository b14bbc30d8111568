mod Endings
mod Exporting
pub mod Found
mod Importing
pub mod Joining
mod Moving
mod Opened
pub mod Refused
mod Saved
pub mod Standing
mod Verdicts
