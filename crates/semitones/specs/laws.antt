-- Proofs that the laws hold. They stand here since the view, which clauses cite, has the laws in it; a reader need not go through them.
pub mod Solves
pub mod Bounds
pub mod Canon
pub mod Names
pub mod Kept
pub mod Blanks
pub mod Laws
