-- Definitions that only contracts between crates cite. No law and no contract of `run` reaches them,
-- so nobody has to believe them but the callers of these contracts.
pub mod Device
pub mod Blocks
pub mod Record
pub mod Reading
pub mod InputBuffer
pub use Rattle.ssim_columns.specs.clauses.Leg
pub use Rattle.ssim_columns.specs.clauses.LegParts
