-- What the functions over methods sorted by name require and ensure.
pub mod Table
