pub mod Fault
pub mod Held
pub mod Entries
pub mod File
pub mod clauses
pub mod internal
