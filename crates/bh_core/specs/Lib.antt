pub mod AskedRanges
pub mod Completions
pub mod Laws
