-- Definitions for the contracts of single calls. The definitions of the promises are in the folder above.
pub mod View
pub mod Reading
pub mod Runs
pub mod Filling
pub mod Digits
pub mod Heads
