-- A property of each directory is one of any.
use Rattle.std.specs.List.{AllByRecursion}
use Rattle.px_meaning.specs.declared.Dir.{Dir}
use Rattle.px_meaning.specs.declared.Dir.TheVariants.{Main, Exif, Interop, Gps, Thumb}
use Rattle.px_meaning.specs.Directory.{dirs}

pub each_dir : (P : Dir → Type 0) → AllByRecursion P dirs → (d : Dir) → P d
each_dir P h Main = h.0
each_dir P h Exif = h.1.0
each_dir P h Interop = h.1.1.0
each_dir P h Gps = h.1.1.1.0
each_dir P h Thumb = h.1.1.1.1.0
