-- The laws of sorted places.
pub mod Order
pub mod Table
pub mod Change
