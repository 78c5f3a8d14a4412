-- What the functions over sorted places require and ensure.
pub mod Sorted
