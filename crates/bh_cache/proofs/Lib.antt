pub mod BlockNames
pub mod Keeping
pub mod Agreeing
pub mod Counting
