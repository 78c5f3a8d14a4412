-- What the contracts of this crate cite beside the definitions of document 01.
pub mod Marks
pub mod Calls
