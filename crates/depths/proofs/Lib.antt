-- The laws behind question 14.
pub mod ByNumber
pub mod Records
pub mod Exist
pub mod ListedParents
pub mod ParentKinds
pub mod Walk
pub mod Figures
pub mod Parts
pub mod ByTable
pub mod Written
pub mod Width
pub mod Longer
pub mod Later
pub mod Kept
