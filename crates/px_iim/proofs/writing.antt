-- Steps of writing.
pub mod Writes
pub mod Alike
