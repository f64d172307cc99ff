pub mod Words
pub mod calls
