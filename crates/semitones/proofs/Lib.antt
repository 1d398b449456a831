pub mod Moving
pub mod Joining
pub mod Told
pub mod Telling
pub mod Saying
pub mod Naming
