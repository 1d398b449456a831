pub mod Parts
pub mod Refusals
pub mod Unknowns
pub mod Calls
pub mod History
pub mod Promise
