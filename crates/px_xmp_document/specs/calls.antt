pub mod Entries
pub mod Passing
pub mod Names
pub mod Keys
pub mod Walks
