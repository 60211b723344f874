-- Computed examples.
pub mod Pieces
