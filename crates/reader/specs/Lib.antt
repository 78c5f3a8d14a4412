-- The definitions that the contracts of the package reader cite.
pub mod Answers
