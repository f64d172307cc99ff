-- The meaning of a block.
pub mod Owned
pub mod Footprint
pub mod Fresh
pub mod Judged
pub mod Assembled
pub mod Started
