pub mod Numbers
pub mod Outcomes
pub mod Jpeg
pub mod Blocks
pub mod Pictures
pub mod Unread
pub mod Packets
pub mod Xmp
