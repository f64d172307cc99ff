use Rattle.std.proofs.Common.{◌≡◌, ◌∙◌, ℕ, List, take, flat_map, arith, subst, rules}
use Rattle.std.specs.List.{range_with_len}
use Rattle.std.proofs.lemmas.List.{take_all}
use Rattle.std.proofs.lemmas.Result.{err_from_is_err_and}
use Rattle.px_bytes.specs.lemmas.WaitingLaws.{HasPut, loop_more, loop_stop}
use Rattle.px_layout.specs.declared.chunks.Chunk.TheVariants.{Strip}
use Rattle.px_layout.specs.Laid.{long_bytes}
use Rattle.px_plans.specs.calls.Layouts.{plan_of_layout}
use Rattle.px_layout.specs.Plans.{place}
use Rattle.px_layout.specs.lemmas.PlacementLaws.{length_range}
use Rattle.px_layout.specs.lemmas.PutLaws.{slice_get_range}
use Rattle.px_plans.proofs.put_item.put_strip_offsets.Goals as goal

pub returns-in_err-put_place : goal.returns-in_err-put_place
returns-in_err-put_place g c =
    let p = err_from_is_err_and c.from_residual.result c.from_residual.ensures.1 in
    let i = c.loop-i.i in
    rw p.1 (
      loop_stop g.W.Sink.bytes_taken (λ i. long_bytes c.args.layout.now.order (place (plan_of_layout c.args.layout.now) (Strip i)))
          (range_with_len 0 c.args.count) i i (slice_get_range c.args.count i (omega arith))
          _ _ _ c.args.pending.now c.loop-i.pending c.loop-i.invariant.put c.in_err-put_place.ensures.0,
      search rules,
    )

pub loop-i-preserved : goal.loop-i-preserved
loop-i-preserved g c =
    let i = c.loop-i.i in
    record {
      put = loop_more g.W.Sink.bytes_taken (λ i. long_bytes c.args.layout.now.order (place (plan_of_layout c.args.layout.now) (Strip i)))
          (range_with_len 0 c.args.count) i i (slice_get_range c.args.count i (omega arith))
          _ _ _ c.args.pending.now c.loop-i.pending c.put_place.new.pending c.loop-i.invariant.put c.in_ok-put_place.ensures.0;
      count = c.in_ok-put_place.ensures.1 ∙ c.loop-i.invariant.count;
    }

pub returns : goal.returns
returns g c =
    let f = λ (i : ℕ). long_bytes c.args.layout.now.order (place (plan_of_layout c.args.layout.now) (Strip i)) in
    let all : take c.loop-i.i (range_with_len 0 c.args.count) ≡ range_with_len 0 c.args.count =
    take_all c.loop-i.i (range_with_len 0 c.args.count) (omega (arith, length_range 0 c.args.count)) in (
      subst (λ (xs : List ℕ). HasPut g.W.Sink.bytes_taken c.args.writer.now c.loop-i.writer c.args.pending.now c.loop-i.pending
          (flat_map f xs)) all c.loop-i.invariant.put,
      search rules,
    )
