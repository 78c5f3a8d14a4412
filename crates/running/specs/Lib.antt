-- What the functions of question 20 require and ensure.
pub mod Say
pub mod Rows
pub mod Walk
