-- Computed examples.
pub mod Words
