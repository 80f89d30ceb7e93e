pub mod Verdicts
pub mod Reports
pub mod Claims
pub mod Checked
pub mod Before
