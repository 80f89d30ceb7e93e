pub mod Program
pub mod Search
pub mod Questions
pub mod Skips
pub mod Places
pub mod Shapes
pub mod Held
