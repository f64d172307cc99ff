pub mod Stacks
pub mod Steps
pub mod Listed
pub mod Names
