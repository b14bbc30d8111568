mod Apart
pub mod Resting
mod Listing
mod Delivering
pub mod ToldApart
pub mod Responding
mod Turning
mod Grouping
mod Asking
mod Serving
pub mod Running
mod Alike
mod Grouped
pub mod TakenBack
pub mod Answered
