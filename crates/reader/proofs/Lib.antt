-- The laws of the formats of a package file at places, and what an answer with a package gives.
pub mod Formats
pub mod Files
pub mod Opened
pub mod Said
