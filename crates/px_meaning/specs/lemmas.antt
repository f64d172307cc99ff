-- Lemmas. Readers of the promises don't need them.
pub mod TagLaws
pub mod MeaningLaws
pub mod Members
pub mod InRange
pub mod FitsBack
pub mod Filled
