-- What questions 1 and 2 and a load say.
pub mod Says
