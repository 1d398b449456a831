-- What a text is cut into, and what a cursor over it gives.
pub mod Cutting
pub mod Cursor
