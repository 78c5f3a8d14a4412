-- What the functions over a store require and ensure.
pub mod Openings
pub mod Entries
pub mod Answers
pub mod Sound
