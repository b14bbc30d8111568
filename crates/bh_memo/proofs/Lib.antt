pub mod Calls
pub mod Holding
pub mod Keeping
pub mod Lists
pub mod Recalling
pub mod Rules
