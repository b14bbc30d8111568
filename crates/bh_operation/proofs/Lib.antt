pub mod Digits
pub mod Refused
pub mod Routed
pub mod Texts
