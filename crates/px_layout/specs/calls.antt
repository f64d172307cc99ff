-- Definitions for the contracts of single calls. The definitions of the promises are in the folder above.
pub mod Starting
pub mod Forms
pub mod Given
pub mod Items
pub mod Layers
pub mod Placed
