-- Definitions that only private functions cite. No law and no public contract cites them, so nobody
-- has to believe them.
pub mod GroupedLines
pub mod FlightDates
pub mod Divisions
pub mod Writers
