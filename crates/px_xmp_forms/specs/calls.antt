pub mod Blanks
pub mod Ends
