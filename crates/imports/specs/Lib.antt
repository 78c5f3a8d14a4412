-- What the functions over a file's AID and its imports require and ensure.
pub mod Say
