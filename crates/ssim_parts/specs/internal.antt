-- Definitions that private functions alone cite, so nobody has to believe them.
pub mod Changes
pub mod Counted
pub mod Even
pub mod FateOrder
pub mod KeptDates
pub mod Moved
pub mod MovedDates
pub mod Placed
pub mod SectionBlocks
pub mod SectionSteps
