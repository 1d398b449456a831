-- The machine, derivations, what is shown of them, and two faulty machines with examples.
pub mod Machine
pub mod Derivations
pub mod Theorems
pub mod Faulty
pub mod Examples
