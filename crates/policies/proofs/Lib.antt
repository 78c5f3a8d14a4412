-- The laws about policies at places.
pub mod Slots
pub mod Indexes
pub mod Numbers
pub mod Compared
pub mod Rules
pub mod Listed
pub mod Masks
pub mod Gathered
pub mod Kept
