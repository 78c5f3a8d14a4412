-- Laws of the rows and of the packages that numbers stand for.
pub mod Rows
pub mod Numbers
