-- The books that texts are read as, lines over either bank, tells, and the rows.
mod Books
mod TreeLines
mod Distances
mod SemitoneLines
mod Tells
mod Runs
