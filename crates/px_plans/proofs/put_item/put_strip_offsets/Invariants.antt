use Rattle.std.proofs.Common.{◌≡◌, take, flat_map}
use Rattle.std.specs.List.{range_with_len}
use Rattle.px_bytes.specs.lemmas.WaitingLaws.{HasPut}
use Rattle.px_layout.specs.declared.chunks.Chunk.TheVariants.{Strip}
use Rattle.px_layout.specs.Laid.{long_bytes}
use Rattle.px_plans.specs.calls.Layouts.{plan_of_layout}
use Rattle.px_layout.specs.Plans.{place}
use Rattle.px_plans.proofs.put_item.put_strip_offsets.Given as goal

-- the offsets so far were added, and no call failed
abbrev pub invariant-loop-i : goal.invariant-loop-i
invariant-loop-i g l = record {
  put : HasPut g.W.Sink.bytes_taken l.initial.writer l.writer l.initial.pending l.pending
      (flat_map (λ i. long_bytes l.layout.order (place (plan_of_layout l.layout) (Strip i))) (take l.i (range_with_len 0 l.count)));
  count : g.W.Device.calls l.writer ≡ g.W.Device.calls l.initial.writer;
}
