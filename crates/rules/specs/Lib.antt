pub mod Types
pub mod Fits
pub mod Effects
pub mod Actions
pub mod Walks
pub mod Questions
pub mod Flows
pub mod Before
