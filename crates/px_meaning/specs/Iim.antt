-- The record inside a block, by the definitions of px_iim.
-- Example: an entry 83BB of type UNDEFINED with the bytes 1C 02 78 00 03 61 62 63 is a record with the DataSet 2:120 `abc`.
pub use Rattle.px_iim.specs.Group.{IsRecord}
pub use Rattle.px_iim.specs.Record.{iim_of, normal_iim}
use Rattle.px_iim.specs.Group.{Record}

-- the meaning of the DataSets at tag 83BB, which a meaning of an Exif block contains
abbrev pub Iim : Type 0
Iim = Record
