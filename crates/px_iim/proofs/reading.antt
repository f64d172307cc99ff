-- Steps of reading.
pub mod Octets
pub mod Order
pub mod Steps
pub mod Runs
pub mod Sorted
pub mod RunSteps
pub mod Counted
pub mod Parts
pub mod Walked
pub mod Filled
pub mod Refusals
pub mod Moved
pub mod Gathered
