-- The definitions that the contracts of the cursor cite.
pub mod Says
pub mod Aids
pub mod Limits
