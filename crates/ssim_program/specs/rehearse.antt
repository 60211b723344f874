-- Desk scripts, and what a rehearsal of one prints.
pub mod Script
pub mod Rehearsal
pub mod Verdict
