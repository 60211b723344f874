-- What is printed.
pub mod Names
pub mod Refusal
pub mod PrintedLine
pub mod Shown
pub mod HistoryRows
pub mod Listing
pub mod Difference
pub mod Effects
pub mod Blocks
pub mod Board
pub mod Calendar
pub mod Info
pub mod StationNotes
pub mod Paper
pub mod Page
