-- The laws of questions 12 and 13.
pub mod Imports
pub mod Table
