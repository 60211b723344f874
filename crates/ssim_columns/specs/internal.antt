-- What only the proofs of this crate cite.
pub mod LatestColumns
pub mod LatestMonths
pub mod LegPoints
pub mod Clocks
pub mod LegColumns
