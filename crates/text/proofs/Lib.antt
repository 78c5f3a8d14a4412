-- The laws of text.
pub mod Puts
pub mod Digits
pub mod Back
