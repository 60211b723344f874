pub mod Makers
pub mod Lines
pub mod Rows
pub mod clauses
pub mod internal
pub mod examples
