pub mod Totals
pub mod SaidRows
pub mod StationNotes
pub mod examples
pub mod internal
