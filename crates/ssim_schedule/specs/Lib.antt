pub mod ExportResult
pub mod MessageColumns
pub mod Effect
pub mod Acts
pub mod FlightPieces
pub mod clauses
pub mod examples
pub mod internal
