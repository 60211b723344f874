-- Definitions that only private functions cite. No law and no public contract cites them, so nobody
-- has to believe them.
pub mod Program
pub mod Take
pub mod Receive
pub mod Export
pub mod MergingSince
pub mod Explain
pub mod DataSet
pub mod Rehearse
pub mod Print
pub mod Carry
pub mod Choices
pub mod SomeFlights
pub mod Splitting
pub mod Spans
pub mod Diff
pub mod Effects
