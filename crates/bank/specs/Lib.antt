pub mod Kinds
pub mod Conditions
pub mod Views
pub mod Numbers
pub mod Calls
