-- Definitions that only private functions cite, so nobody has to believe them.
pub mod ColumnLines
pub mod Candidates
pub mod Drafts
pub mod Sorted
pub mod ReasonPieces
pub mod AddedLines
pub mod Texts
pub mod Delivery
pub mod Headings
pub mod Addressed
pub mod LegChanges
