-- The laws of the index.
pub mod Entered
pub mod Tables
pub mod Room
pub mod Here
pub mod Entering
pub mod Asked
