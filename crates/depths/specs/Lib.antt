-- What the functions over parents and depths require and ensure.
pub mod Depths
