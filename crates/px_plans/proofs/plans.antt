-- Plans, and blocks that they lay out.
pub mod Counting
pub mod Built
pub mod Back
pub mod Pieces
pub mod Lines
pub mod Verdicts
pub mod Holding
pub mod Keyed
pub mod Asked
pub mod Sizes
