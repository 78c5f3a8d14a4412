-- What the functions of question 19's comparison require and ensure.
pub mod Covers
