-- The laws of reading at places: of each reader, of readers one after the other, of counted lists.
pub mod Steps
pub mod Fields
pub mod Counts
pub mod Widths
pub mod Copies
pub mod Aids
