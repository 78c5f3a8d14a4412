-- The laws of lines, and examples.
pub mod Parts
pub mod Digits
pub mod Decoding
pub mod Gathering
pub mod Reading
pub mod Input
pub mod Examples
