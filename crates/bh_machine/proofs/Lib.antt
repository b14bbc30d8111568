pub mod Nameless
pub mod Refused
pub mod Changing
pub mod Bounded
pub mod NumberLemmas
pub mod Retaining
