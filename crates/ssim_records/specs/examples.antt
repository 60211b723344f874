-- Computed examples.
pub mod DataSet
