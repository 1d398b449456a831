-- What a line can say, what the code's values stand for, how a line is read, and how that moves a cursor.
pub mod Statements
pub mod Says
pub mod Reading
pub mod Moves
