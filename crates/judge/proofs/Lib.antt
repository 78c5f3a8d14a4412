-- The laws of judging a load and the packages of a store.
pub mod Answers
pub mod Settings
pub mod Stages
pub mod Parents
pub mod Loading
pub mod Entry
pub mod Going
pub mod Packages
