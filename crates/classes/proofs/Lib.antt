-- Laws of classes by home and number.
pub mod Records
pub mod Parents
pub mod Places
pub mod Apart
pub mod Keys
