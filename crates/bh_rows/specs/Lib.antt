pub mod Form
pub mod Scan
pub mod Means
pub mod Keys
pub mod Texts
pub mod Index
pub mod Over
