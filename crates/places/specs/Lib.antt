-- Readers at places of a slice, and the parts of a package file there.
pub mod Reads
pub mod Parts
