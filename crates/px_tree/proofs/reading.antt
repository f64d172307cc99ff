-- Steps of reading.
pub mod Pieces
pub mod Shapes
pub mod Raw
pub mod Loop
pub mod Faulted
pub mod Pointers
pub mod KeptUses
pub mod NoUse
pub mod Named
pub mod Earlier
pub mod Parted
pub mod StripRanges
pub mod Rising
pub mod Kept
pub mod Paying
