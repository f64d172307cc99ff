-- Steps of writing.
pub mod Beginnings
pub mod Runs
pub mod WriteNormal
pub mod FieldBytes
pub mod Longs
pub mod StripPieces
