-- Computed examples.
pub mod Dates
pub mod Plans
pub mod Texts
