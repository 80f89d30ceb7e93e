pub mod Answered
pub mod Calls
pub mod Forces
pub mod Runs
