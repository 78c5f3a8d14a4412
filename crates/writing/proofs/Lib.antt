-- The laws of writing a store.
pub mod Paste
pub mod Layouts
pub mod Append
pub mod Cut
pub mod Empty
