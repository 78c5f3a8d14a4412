-- The printed inventory as definitions (document 02, request 1), and rows.
pub mod Inventory
pub mod Kept
pub mod CasesForm
pub mod Cases
