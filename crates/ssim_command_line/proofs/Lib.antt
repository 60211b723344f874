pub mod Rows
pub mod TableLoops
pub mod PlainWords
pub mod Readings
pub mod Lines
pub mod Examples
