pub mod Shown
pub mod Looked
