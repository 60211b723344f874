-- Computed examples.
pub mod Texts
