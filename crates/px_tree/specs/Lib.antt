-- The definitions of px_meaning, under the names that callers of the reader use.
pub use Rattle.px_meaning.specs.Roles
pub use Rattle.px_meaning.specs.Iim
pub use Rattle.px_meaning.specs.Tree
pub use Rattle.px_meaning.specs.Entry
pub use Rattle.px_meaning.specs.Directory
pub use Rattle.px_meaning.specs.Thumbnail
pub use Rattle.px_meaning.specs.Footprint
pub use Rattle.px_meaning.specs.Says
pub use Rattle.px_meaning.specs.Writable
pub use Rattle.px_meaning.specs.Laws
pub use Rattle.px_meaning.specs.lemmas
pub mod Asking
pub mod Checks
pub mod Faults
pub mod Refused
pub mod FaultLaws
pub mod calls
