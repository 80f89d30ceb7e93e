pub mod Loaded
pub mod Answers
pub mod Filling
pub mod Loading
pub mod Dispatching
pub mod Running
