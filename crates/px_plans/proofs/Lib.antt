mod Opened
mod Examples
pub mod plans
