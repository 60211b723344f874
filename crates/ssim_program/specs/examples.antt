-- Computed examples.
pub mod Scripts
pub mod Sections
pub mod Histories
pub mod Turns
pub mod Names
