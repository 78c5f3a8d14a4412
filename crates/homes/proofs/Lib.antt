-- Laws about homes.
pub mod Places
pub mod Homes
pub mod Earlier
pub mod Lookups
pub mod Domains
pub mod Imported
