pub mod Given
pub mod Acted
pub mod Flying
