pub mod AskedStates
pub mod Bodies
pub mod Floats
pub mod Markers
pub mod Ranges
pub mod Retained
pub mod Lengths
