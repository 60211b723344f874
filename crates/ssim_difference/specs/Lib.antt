pub mod Differences
pub mod ChosenDates
pub mod Kinds
pub mod Rows
pub mod Lines
pub mod clauses
pub mod internal
pub mod examples
