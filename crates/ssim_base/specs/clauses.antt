-- Definitions that only contracts between crates cite. No law and no contract of `run` reaches them,
-- so nobody has to believe them but the callers of these contracts.
pub mod Timetable
pub mod Export
pub mod ItineraryLaws
pub mod ReadBack
pub mod Closed
pub mod Sinks
pub mod Stations
pub mod Reading
pub mod Building
pub mod Summary
pub mod Problems
pub mod SavedBase
