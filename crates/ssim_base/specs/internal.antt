-- Definitions that only private functions cite. No law and no public contract cites them, so nobody
-- has to believe them.
pub mod Dates
pub mod LegTable
pub mod Acceptance
pub mod DataSetReader
pub mod StationRows
pub mod SavedLines
pub mod Reading
pub mod Problems
