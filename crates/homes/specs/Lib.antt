-- What the functions over homes require and ensure.
pub mod Homes
pub mod Found
