pub mod Answers
pub mod Floors
pub mod Ranges
pub mod Signs
