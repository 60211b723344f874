-- Cited by private functions alone.
pub mod Ranks
pub mod PieceMovements
pub mod DaysThere
