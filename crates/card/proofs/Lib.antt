-- The laws of the simulated card's forms.
pub mod Forms
