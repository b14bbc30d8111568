pub mod Answers
pub mod Calls
pub mod Errors
pub mod Plans
pub mod Reports
