pub mod Counts
pub mod Extension
pub mod Joined
pub mod Xmp
pub mod Same
pub mod Asking
