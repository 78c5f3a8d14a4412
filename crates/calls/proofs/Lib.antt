-- Laws about a file's codes and calls.
pub mod Numbers
pub mod Forms
pub mod Rights
pub mod Covers
pub mod Asked
pub mod Lists
pub mod Walked
pub mod Groups
pub mod Known
