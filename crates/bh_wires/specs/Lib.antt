pub mod Answers
pub mod Ends
pub mod Pace
pub mod Sweeping
