-- Laws of slots.
pub mod Slots
pub mod Imports
pub mod Asked
pub mod Standing
pub mod Entered
