-- What the operations promise.
pub mod Promises
