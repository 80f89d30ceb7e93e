pub mod Plain
pub mod Standing
pub mod Turning
