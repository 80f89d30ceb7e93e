pub mod Aside
pub mod Still
pub mod Spots
pub mod Locating
pub mod Turning
pub mod Looking
