-- Ranges and their marks.
pub mod BitLaws
pub mod MarkLaws
pub mod RangesApart
pub mod ClaimedOnce
