-- The laws of comparing two methods' policies.
pub mod Pairs
pub mod Passing
pub mod Begins
pub mod Alike
