-- The laws of question 15 at places, and of the table of names.
pub mod Table
pub mod Rules
