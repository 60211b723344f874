-- Computed examples.
pub mod Calendars
