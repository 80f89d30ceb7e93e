pub mod Lists
pub mod Store
pub mod Answers
pub mod Acts
pub mod Counts
