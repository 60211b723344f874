-- Computed examples.
pub mod Blocks
pub mod Effects
