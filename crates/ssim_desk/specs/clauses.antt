-- Definitions that only contracts between crates cite. No law and no contract of `run` reaches them,
-- so nobody has to believe them but the callers of these contracts.
pub mod Meaning
pub mod Steps
pub mod Agreement
pub mod Desk
pub mod Outcomes
