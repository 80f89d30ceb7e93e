pub mod Delivering
pub mod Ends
pub mod Lent
pub mod Pausing
pub mod Starting
pub mod Texts
pub mod Trailing
pub mod Pooling
