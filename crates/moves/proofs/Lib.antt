pub mod Numbers
pub mod Written
pub mod Parts
pub mod Lengths
