pub mod Typed
pub mod Date
pub mod Flight
pub mod Station
pub mod Aircraft
pub mod Several
pub mod examples
