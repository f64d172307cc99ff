pub mod Opened
pub mod Examples
pub mod lists
pub mod assembling
pub mod faulting
pub mod reading
