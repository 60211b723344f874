-- Definitions that only contracts between crates cite. No law and no contract of `run` reaches them,
-- so nobody has to believe them but the callers of these contracts.
pub mod Columns
pub mod Leg
pub mod LegParts
pub mod Segment
pub mod Heads
