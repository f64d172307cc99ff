-- Definitions for the contracts of single calls. Those that the promises need are one folder above.
pub mod Faults
pub mod Filled
pub mod Second
pub mod Seen
pub mod Ends
pub mod Kinds
pub mod Putting
