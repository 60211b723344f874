-- Small examples, checked by computation. Nothing cites them.
pub mod Sections
