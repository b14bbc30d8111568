pub mod Lists
pub mod Coming
pub mod Moving
pub mod Texts
pub mod Reading
