-- The laws of the domain phase.
pub mod Split
pub mod Keys
pub mod Phase
mod Strict
mod Reading
