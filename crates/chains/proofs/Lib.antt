-- Laws of chains and of the methods that run.
pub mod Methods
pub mod Links
pub mod Parts
pub mod Gathering
pub mod Collecting
pub mod Collected
pub mod Running
pub mod Keeping
pub mod Finding
pub mod Alike
