mod Copying
pub mod Showing
