-- Computed examples.
pub mod Desks
