pub mod Listing
pub mod Entering
