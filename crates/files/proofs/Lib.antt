-- The laws about walking one package file.
pub mod Steps
pub mod Guards
pub mod Walks
pub mod Loops
