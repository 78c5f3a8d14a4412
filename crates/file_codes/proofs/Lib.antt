-- The laws that the proofs of this crate's functions cite, and what the answers of a file say.
mod Loops
mod Guards
pub mod Numbers
mod Keeping
