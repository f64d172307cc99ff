-- The content of clap's match of the command.
pub mod Named
pub mod Parsed
pub mod Rows
pub mod Walked
pub mod Whole
