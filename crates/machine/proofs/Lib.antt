-- Facts of lists and frames, the parts of the theorems, and the examples.
pub mod Lists
pub mod Rules
pub mod Determinism
pub mod Shapes
pub mod Solutions
pub mod Waiting
pub mod Separate
pub mod Frames
pub mod Values
pub mod Posed
pub mod Soundness
pub mod Completeness
pub mod Progress
pub mod Worked
pub mod Refutations
