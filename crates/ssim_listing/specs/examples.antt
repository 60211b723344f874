-- Computed examples.
pub mod Listings
