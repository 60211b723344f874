-- Computed examples.
pub mod Boards
