pub mod Gathered
pub mod Seen
pub mod Reading
pub mod Laws
pub mod Taken
pub mod Versions
pub mod Places
pub mod Uploads
