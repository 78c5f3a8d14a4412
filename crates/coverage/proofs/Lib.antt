-- The laws of question 19's comparison.
pub mod Sure
pub mod Looked
pub mod AllListed
pub mod Covered
