pub mod Answers
pub mod Clauses
pub mod Delayed
pub mod Setting
pub mod Undef
