use Rattle.std.proofs.Common.{◌≡◌, ◌++◌, ℕ, List}
use Rattle.std.specs.List.{AllByRecursion}
use Rattle.px_iim.specs.Group.{IsGroup}
use Rattle.px_iim.specs.Record.{normal_iim}
use Rattle.px_bytes.specs.lemmas.WaitingLaws.{HasPut}
use Rattle.px_iim.proofs.write.put_iim.Given as goal

-- the groups so far were put, those that are left make the rest of the form, and no call failed
abbrev pub invariant-loop-rec : goal.invariant-loop-rec
invariant-loop-rec g l = record {
  whole : AllByRecursion IsGroup l.rec-iterator;
  put : (parts : List ℕ) × HasPut g.W.Sink.bytes_taken l.initial.writer l.writer l.initial.pending l.pending parts ×
      (parts ++ normal_iim l.rec-iterator ≡ normal_iim l.iim);
  count : g.W.Device.calls l.writer ≡ g.W.Device.calls l.initial.writer;
}
