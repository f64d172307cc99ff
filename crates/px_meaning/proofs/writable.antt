-- Meanings that can be written.
pub mod FieldPairs
pub mod FieldLemmas
pub mod ItemCounts
pub mod WritableLemmas
