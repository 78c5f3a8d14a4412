-- The lines of the simulated card and what it answers as definitions, and what the results of the functions over lines say.
pub mod Line
pub mod Card
pub mod Results
