-- What the functions of the search require and ensure.
pub mod Search
pub mod Walk
