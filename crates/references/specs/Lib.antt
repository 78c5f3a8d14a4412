-- What the functions over a file's references require and ensure.
pub mod Setting
pub mod Named
pub mod Kept
