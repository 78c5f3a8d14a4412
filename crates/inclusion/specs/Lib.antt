-- What the functions that compare two methods' policies require and ensure.
pub mod Rows
pub mod Order
