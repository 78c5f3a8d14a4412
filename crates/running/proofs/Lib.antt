-- Laws of question 20.
pub mod Allows
pub mod Turns
pub mod Loops
pub mod Visits
pub mod Walk
pub mod Steps
pub mod Whole
pub mod Seen
