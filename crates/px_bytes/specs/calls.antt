-- Definitions for the contracts of single calls. The definitions of the promises are in the folder above.
pub mod Marks
pub mod Watching
pub mod Grown
pub mod Writing
pub mod Marked
pub mod Reading
pub mod Freed
