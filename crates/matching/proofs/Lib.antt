pub mod Kinding
pub mod Gathering
pub mod Picking
pub mod Caching
pub mod Joined
pub mod Looking
