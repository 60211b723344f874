-- Definitions that only private functions cite. No law and no contract of a public function cites
-- them, so nobody has to believe them. `Table` has how flights are stored, by which `days_in` and
-- `cuts_in` are defined: a caller knows of these two what the contracts of `Schedule` say.
pub mod CopyOnWrite
pub mod SharedLegs
pub mod Table
pub mod Blocks
pub mod LegKey
pub mod LegGroup
pub mod Runs
pub mod TableBuilder
pub mod PendingSegments
pub mod WantedDates
pub mod TimetableBuilder
pub mod FlightSet
pub mod ActionParts
pub mod Plan
