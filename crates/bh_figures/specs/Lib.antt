pub mod Figures
pub mod Page
