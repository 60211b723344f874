-- Definitions that only private functions and computed examples cite, so nobody has to believe
-- them.
pub mod Between
pub mod Choosing
pub mod Matched
pub mod Counted
pub mod KindCounts
pub mod RowHeads
