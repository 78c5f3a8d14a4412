-- What the functions over slots require and ensure.
pub mod Slots
