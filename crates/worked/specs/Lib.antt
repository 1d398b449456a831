-- The table of worked examples.
pub mod Rows
pub mod Table
