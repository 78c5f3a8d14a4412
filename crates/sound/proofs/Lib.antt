-- The laws of questions 1 and 2.
pub mod Tables
pub mod Laws
pub mod NoEntries
