-- What the functions over policies require and ensure.
pub mod Say
pub mod Numbers
pub mod Rows
