-- What the questions of the services answer.
pub mod Answers
