-- What judging says.
pub mod Says
