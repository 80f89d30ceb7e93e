pub mod Masks
pub mod Ways
