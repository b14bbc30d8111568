pub mod Beside
mod Texts
mod Rows
mod Steps
