-- Computed examples.
pub mod DataSets
pub mod StationTables
