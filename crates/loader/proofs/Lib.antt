-- Laws of an operation's number and bytes.
pub mod Numbers
pub mod Cuts
pub mod Additions
