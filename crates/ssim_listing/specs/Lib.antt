pub mod LegText
pub mod Marks
pub mod Lines
pub mod Dates
pub mod Rows
pub mod clauses
pub mod internal
pub mod examples
