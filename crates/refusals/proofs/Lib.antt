-- The laws that the proofs of walks cite.
pub mod Numbers
pub mod Order
pub mod Said
pub mod Walks
