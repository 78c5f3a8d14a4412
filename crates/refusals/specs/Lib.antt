-- What the contracts of this crate cite beside the definitions of document 01.
pub mod Order
pub mod Refusals
