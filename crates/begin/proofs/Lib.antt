pub mod Stores
pub mod Words
pub mod Filling
pub mod Answers
pub mod Firsts
pub mod Beginning
