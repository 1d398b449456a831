pub mod Whole
pub mod Cells
pub mod Says
pub mod Edges
pub mod Joins
pub mod laws
pub mod View
