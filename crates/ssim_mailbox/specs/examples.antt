-- Mailboxes worked out by hand.
pub mod Mailboxes
