-- What the functions over a file's codes and calls require and ensure.
pub mod Codes
pub mod Named
pub mod Maps
pub mod Rights
pub mod Calls
