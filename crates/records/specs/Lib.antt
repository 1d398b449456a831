pub mod Cells
pub mod Slots
pub mod Vacant
pub mod Shelves
