pub mod Kinds
pub mod Codes
pub mod Arguments
pub mod Choosing
