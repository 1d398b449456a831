pub mod Fill
pub mod Scopes
pub mod Places
pub mod Leaf
pub mod Moves
