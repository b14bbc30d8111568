pub mod Machine
pub mod Refused
pub mod Bounded
pub mod Numbers
pub mod Retained
