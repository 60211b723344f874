-- Definitions of how the values of days are kept and changed. Only private functions, the views of
-- private fields and computed examples cite them, so nobody has to believe them.
pub mod Apart
pub mod Bits
pub mod Count
pub mod Forms
pub mod Gather
pub mod Numbers
pub mod Parts
pub mod Rows
pub mod Splits
