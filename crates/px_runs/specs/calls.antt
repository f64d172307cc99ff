-- Definitions for the contracts of single calls. The definitions of the promises are in the folder above.
pub mod Reporting
pub mod Flushing
pub mod Printing
