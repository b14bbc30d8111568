mod Held
mod Again
mod Reopened
mod Keeping
mod Unnamed
mod Looking
mod Shown
pub mod Over
