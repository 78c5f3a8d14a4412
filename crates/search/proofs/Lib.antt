-- Laws of the search.
pub mod Within
pub mod Codes
pub mod Firsts
pub mod Steps
pub mod Seen
pub mod Chain
pub mod Standing
pub mod Visits
pub mod Turns
