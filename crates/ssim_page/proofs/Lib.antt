pub mod Joining
pub mod PlainText
pub mod RowMarks
