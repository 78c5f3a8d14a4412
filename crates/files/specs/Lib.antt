-- What the functions over one package file require and ensure.
pub mod Say
