-- The laws that the proofs of this crate's functions cite.
mod Targets
mod Adding
mod Opcodes
mod Walking
mod Landing
mod Fitting
mod Numbers
pub mod Calls
mod Barred
