mod Decisions
mod Entries
mod Ranges
mod Responses
pub mod Rows
mod Texts
mod Uploads
