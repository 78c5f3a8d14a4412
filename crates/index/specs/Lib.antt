-- What the functions over an index require and ensure.
pub mod Index
