pub mod Records
pub mod Spools
pub mod Wholes
pub mod Staged
pub mod Joins
pub mod Patience
pub mod Places
