-- The laws of this bank, proved here since its view holds them: what stands below need not be believed.
pub mod Solves
pub mod Shapes
pub mod Depths
pub mod Sounds
pub mod Blanks
pub mod Decode
pub mod Canon
pub mod Fillings
pub mod All
