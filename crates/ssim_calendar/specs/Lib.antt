pub mod Letters
pub mod Picture
pub mod Legend
pub mod clauses
pub mod examples
