pub mod Books
pub mod Trees
pub mod Steps
