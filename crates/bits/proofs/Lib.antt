-- Laws of bits and of fields.
mod Digits
pub mod Bits
pub mod Within
pub mod Fields
