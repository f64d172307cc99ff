mod Added
pub mod writable
pub mod tables
