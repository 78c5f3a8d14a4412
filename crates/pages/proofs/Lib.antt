-- The laws of lines.
pub mod Methods
pub mod Lines
pub mod Left
