-- Definitions for the contracts of single calls. The definitions of the promises are in the folder above.
pub use Rattle.px_meaning.specs.calls.Places
pub use Rattle.px_meaning.specs.calls.Seen
pub mod Paying
pub mod Reading
pub mod Uses
pub mod Linked
pub mod ReadTree
pub mod Parts
pub use Rattle.px_meaning.specs.calls.Used
pub use Rattle.px_meaning.specs.calls.Strips
