pub mod Appending
pub mod Forbidden
pub mod Usual
