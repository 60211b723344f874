-- Definitions that only private functions cite. No law and no public contract cites them, so nobody
-- has to believe them.
pub mod Changes
pub mod Outcomes
