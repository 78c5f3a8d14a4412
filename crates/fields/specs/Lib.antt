-- What the functions over fields ensure.
pub mod Told
pub mod Words
pub mod Editions
