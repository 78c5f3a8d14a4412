-- The laws that the proofs of this crate's functions, and of those above it, cite.
mod Rule
pub mod Sizes
pub mod Ends
mod Barred
