-- The laws of the store by its bytes.
pub mod Parts
pub mod Stand
pub mod EntriesRead
pub mod Laid
pub mod Walk
pub mod Checks
pub mod Opened
pub mod Own
pub mod Find
pub mod Asked
pub mod Fits
pub mod Sound
