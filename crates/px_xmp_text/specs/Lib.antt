pub mod References
pub mod Characters
pub mod Grammar
pub mod Texts
pub mod Values
pub mod Laws
pub mod calls
