-- The entries of directories.
pub mod EntryLists
