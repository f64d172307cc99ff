use Rattle.std.proofs.Common.{◌≡◌, length}
use Rattle.std.specs.Prelude.{filter_map}
use Rattle.px_jpeg.specs.Blocks.{exif_in}
use Rattle.px_pictures.proofs.blocks.ExifBlocksIterator.next.Given as goal

abbrev pub invariant-loop-run : goal.invariant-loop-run
invariant-loop-run l = filter_map exif_in l.self-inside.runs ≡ filter_map exif_in l.initial.self-inside.runs

abbrev pub decreases-loop-run : goal.decreases-loop-run
decreases-loop-run l = length l.self-inside.runs
