-- The laws of the printed inventory. Request1 is the claim of document 02's request 1; Witness shows that it is not empty.
pub mod Request1
pub mod Loads
pub mod Grown
pub mod Held
pub mod Used
pub mod Printed
pub mod Lines
pub mod Few
pub mod Figures
pub mod Hex
pub mod Witness
