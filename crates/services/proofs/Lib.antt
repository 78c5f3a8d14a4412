-- The laws of creation, deletion, removal and query on a sound store.
pub mod Creation
pub mod Allows
pub mod Importers
pub mod Queries
pub mod Cuts
