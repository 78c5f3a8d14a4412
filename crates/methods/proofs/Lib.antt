-- Laws of methods sorted by name.
pub mod Search
pub mod Entering
