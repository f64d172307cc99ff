-- Lemmas. Readers of the promises don't need them.
pub mod EachLaws
pub mod SameLaws
pub mod ByteLaws
pub mod NumberLaws
pub mod PartLaws
pub mod CheckLaws
pub mod WriteLaws
pub mod WaitingLaws
pub mod RangeLaws
pub mod ApartLaws
