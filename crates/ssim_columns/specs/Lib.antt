pub mod Numbers
pub mod Columns
pub mod Leg
pub mod LegParts
pub mod Segment
pub mod clauses
pub mod internal
