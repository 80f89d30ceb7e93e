pub mod Lines
pub mod Owners
pub mod Pairs
pub mod TypeBytes
pub mod Ways
pub mod Within
pub mod Levels
