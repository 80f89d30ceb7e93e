pub mod Lists
pub mod Owners
