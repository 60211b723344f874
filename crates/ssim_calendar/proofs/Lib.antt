pub mod Ranges
pub mod NewValues
pub mod Dates
pub mod Telling
pub mod Indices
