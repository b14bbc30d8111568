pub mod Texts
pub mod Starting
pub mod Sorting
pub mod Viewed
pub mod Looping
pub mod Answering
pub mod Refusing
pub mod PartsViewed
