-- What the functions over a class by home and number require and ensure.
pub mod Say
pub mod Keys
