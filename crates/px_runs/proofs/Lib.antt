pub mod EndLaws
pub mod LineLaws
pub mod TextLaws
pub mod PacketLaws
pub mod Headlines
mod Logged
