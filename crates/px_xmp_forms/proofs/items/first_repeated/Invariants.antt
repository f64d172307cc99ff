use Rattle.std.proofs.Common.{List, MatchOption}
use Rattle.px_xmp_forms.specs.Entries.{Entry, IsRepeated}
use Rattle.px_xmp_forms.specs.Outputs.{AreItems}
use Rattle.px_xmp_forms.proofs.EntryLaws.{NeighboursDiffer}
use Rattle.px_xmp_forms.proofs.items.first_repeated.Given as goal

abbrev pub invariant-loop-n : goal.invariant-loop-n
invariant-loop-n l = (es : List Entry) → AreItems l.items es → MatchOption l.place (NeighboursDiffer es l.n) (IsRepeated es)
