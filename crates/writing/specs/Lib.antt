-- What the functions that write a store require and leave.
pub mod Changes
