-- The lemmas of this crate: words, slots, the law of one line, how a line is written and how long it is, and its outcome by steps.
pub mod Spelling
pub mod Slotting
pub mod Exactly
pub mod Widths
pub mod Writing
pub mod Outcomes
