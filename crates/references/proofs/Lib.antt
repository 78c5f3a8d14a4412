-- Laws about what references name.
pub mod Lookups
pub mod Table
pub mod Telling
pub mod Filled
