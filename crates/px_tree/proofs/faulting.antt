-- Blocks that are refused.
pub mod NoMeaning
pub mod Reported
pub mod ReportedDirs
pub mod ReportedThumb
pub mod ReportedAll
pub mod Bounded
pub mod Answered
