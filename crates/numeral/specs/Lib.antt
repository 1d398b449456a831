-- Which text is a number, and how it is read.
pub mod Reads
pub mod Steps
