-- Definitions that only contracts between crates cite. No law and no contract of `run` reaches them,
-- so nobody has to believe them but the callers of these contracts.
pub mod Schedule
pub mod DivisionPoints
pub mod ExportResult
pub mod Acts
pub mod Dates
pub mod FlightDate
pub mod PlacedLegs
pub mod ItineraryOrder
pub mod ItineraryOrderLaws
