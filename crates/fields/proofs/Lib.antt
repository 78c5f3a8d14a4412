pub mod Same
pub mod Words
pub mod Editions
