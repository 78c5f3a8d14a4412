-- What a search by halves ensures.
pub mod Partition
