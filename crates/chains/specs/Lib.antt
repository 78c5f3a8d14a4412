-- What the functions over the chain of a class require and ensure.
pub mod Say
pub mod Chain
pub mod Names
