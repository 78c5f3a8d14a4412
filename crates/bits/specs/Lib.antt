-- What the functions over bits and fields ensure.
pub mod Bits
