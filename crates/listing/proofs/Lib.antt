pub mod Gathering
pub mod Arguments
pub mod Opening
pub mod Entry
pub mod Calling
