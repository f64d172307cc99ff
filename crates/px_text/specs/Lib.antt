pub mod Listing
pub mod Captions
pub mod Words
pub mod calls
