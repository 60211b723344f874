pub mod Lists
pub mod Ranked
pub mod Times
pub mod Near
pub mod OnBoard
pub mod InMinutes
pub mod TwoKinds
pub mod DaysThere
