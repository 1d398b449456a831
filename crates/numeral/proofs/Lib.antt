-- The lemmas of this crate: digits read one by one, numbers by their law, and signs.
pub mod Digits
pub mod Numbers
pub mod Signs
