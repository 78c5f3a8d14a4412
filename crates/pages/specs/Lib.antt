-- What the functions that put a page promise.
pub mod Says
