-- The meaning that a value of the program has.
use Rattle.px_meaning.specs.calls.Seen.{meaning_of}
use Rattle.px_engine.specs.declared.meaning.Said.{Said}
use Rattle.px_engine.specs.declared.meaning.Said.TheVariants.{Exif, Iim}
use Rattle.px_engine.specs.Files as files

-- the meaning of either kind, without the program's references
abbrev pub said_view : Said → files.Said
said_view (Exif m) = files.Exif (meaning_of m)
said_view (Iim i) = files.Iim i
