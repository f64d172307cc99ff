-- Words of the contracts of single calls. What the promises rest on stands a folder above.
pub mod Opened
pub mod Beside
