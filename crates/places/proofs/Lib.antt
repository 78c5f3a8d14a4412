-- The laws about readers at places.
pub mod Steady
pub mod Inverse
pub mod Build
pub mod Parts
pub mod Track
pub mod Search
pub mod Places
pub mod Handlers
