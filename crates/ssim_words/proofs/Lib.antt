pub mod NamedFlights
pub mod OneFlight
pub mod EachRead
