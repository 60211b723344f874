-- Small examples, checked by computation. No definition uses them.
pub mod Changes
