pub mod Line
pub mod Usage
pub mod clauses
pub mod internal
