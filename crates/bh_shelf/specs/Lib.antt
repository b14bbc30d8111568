pub mod Contents
pub mod Laws
pub mod Listed
pub mod Marks
pub mod Ranges
pub mod Sound
