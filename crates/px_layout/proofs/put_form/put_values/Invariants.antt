use Rattle.std.proofs.Common.{◌≡◌, take, flat_map}
use Rattle.px_bytes.specs.lemmas.WaitingLaws.{HasPut}
use Rattle.px_layout.specs.Normal.{normal_plan}
use Rattle.px_layout.specs.calls.Forms.{meaning_in}
use Rattle.px_layout.specs.calls.Placed.{placed_bytes}
use Rattle.px_layout.proofs.put_form.put_values.Given as goal

-- the values so far were put, and no call failed
abbrev pub invariant-loop-i : goal.invariant-loop-i
invariant-loop-i g l = record {
  put : HasPut g.W.Sink.bytes_taken l.initial.writer l.writer l.initial.pending l.pending
      (flat_map (placed_bytes (normal_plan (meaning_in l.form))) (take l.i l.entries));
  count : g.W.Device.calls l.writer ≡ g.W.Device.calls l.initial.writer;
}
