pub mod Rows
pub mod Texts
pub mod Told
pub mod Telling
pub mod Versions
pub mod Uploads
