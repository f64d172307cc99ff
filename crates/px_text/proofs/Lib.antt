pub mod Growth
pub mod Chains
pub mod Parts
pub mod Shown
