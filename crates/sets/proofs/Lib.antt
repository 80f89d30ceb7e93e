pub mod Masks
pub mod Members
pub mod Sizes
