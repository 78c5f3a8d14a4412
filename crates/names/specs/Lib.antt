-- What the functions of question 15 require and ensure.
pub mod Say
