pub mod Moves
pub mod Claims
pub mod Parts
