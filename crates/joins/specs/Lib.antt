pub mod Shifted
pub mod Joins
pub mod Alongside
pub mod Claims
pub mod Parts
pub mod Agreed
