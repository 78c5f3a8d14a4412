-- What the domain phase of question 2 requires and ensures.
pub mod Domains
