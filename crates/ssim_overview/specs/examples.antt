-- Computed examples.
pub mod SaidRows
pub mod StationNotes
