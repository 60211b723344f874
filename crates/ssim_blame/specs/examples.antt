-- Computed examples.
pub mod Makers
