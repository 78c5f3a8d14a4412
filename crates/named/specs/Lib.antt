-- What the functions over package and class numbers require and ensure.
pub mod Named
