pub mod Numbers
pub mod Lent
pub mod Loaded
pub mod Lists
pub mod Trails
pub mod Pools
pub mod Watches
