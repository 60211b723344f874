-- Computed examples.
pub mod Days
pub mod Lines
