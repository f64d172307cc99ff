use Rattle.std.proofs.Common.{List, length}
use Rattle.px_xmp_marks.specs.Reading.{Attr, name_view}
use Rattle.px_xmp_markup.specs.calls.Listed.{AreListed}
use Rattle.px_xmp_markup.proofs.AttributeLaws.{PastNames}
use Rattle.px_xmp_markup.proofs.attributes.has_name.Given as goal

abbrev pub invariant-loop-next : goal.invariant-loop-next
invariant-loop-next l = (attributes : List Attr) → AreListed attributes l.octets → PastNames (name_view l.name) l.rest attributes

abbrev pub decreases-loop-next : goal.decreases-loop-next
decreases-loop-next l = length l.rest
