-- Tags and strips, by their tables and lists.
pub mod NoUse
pub mod StripBytes
pub mod StripRuns
pub mod StripLengths
