-- Bytes and figures as text, and what the functions that put text promise.
pub mod Text
pub mod Put
