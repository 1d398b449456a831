-- The lemmas of this crate: cuts of a text, laws of cutting and joining, counts of fields, and a cursor between two lines.
pub mod Cuts
pub mod Joining
pub mod Counts
pub mod Moves
