use Rattle.std.proofs.Common.{◌≡◌, ◌∙◌, List, ℕ, take, flat_map, arith, subst, rules}
use Rattle.std.proofs.lemmas.List.{take_all}
use Rattle.std.proofs.lemmas.Result.{err_from_is_err_and}
use Rattle.px_bytes.specs.lemmas.WaitingLaws.{HasPut}
use Rattle.px_layout.specs.Normal.{padded}
use Rattle.px_layout.specs.lemmas.PutLaws.{fails_as, has_as, more_after, stop_after}
use Rattle.px_layout.specs.lemmas.StripLaws.{padded_even, strips_padded}
use Rattle.px_layout.proofs.put_thumb.put_strips.Goals as goal

pub returns-in_err-put_padded : goal.returns-in_err-put_padded
returns-in_err-put_padded g c =
    let p = err_from_is_err_and c.from_residual.result c.from_residual.ensures.1 in
    rw p.1 (
      fails_as g.W.Sink.bytes_taken _ _ c.args.pending.now _ _ (strips_padded 0 c.args.strips.now)
          (stop_after g.W.Sink.bytes_taken padded c.args.strips.now c.loop-i.i _ _ (c.run_at-run.ensures.bytes padded padded_even)
          _ _ _ c.args.pending.now c.loop-i.pending c.loop-i.invariant.put c.in_err-put_padded.ensures.0),
      search rules,
    )

pub loop-i-preserved : goal.loop-i-preserved
loop-i-preserved g c = record {
  inside = c.run_at-run.ensures.inside;
  put = more_after g.W.Sink.bytes_taken padded c.args.strips.now c.loop-i.i _ _ (c.run_at-run.ensures.bytes padded padded_even)
      _ _ _ c.args.pending.now c.loop-i.pending c.put_padded.new.pending c.loop-i.invariant.put c.in_ok-put_padded.ensures.0;
  count = c.in_ok-put_padded.ensures.1 ∙ c.loop-i.invariant.count;
}

pub returns : goal.returns
returns g c =
    let all : take c.loop-i.i c.args.strips.now ≡ c.args.strips.now = take_all c.loop-i.i c.args.strips.now (omega arith) in (
      has_as g.W.Sink.bytes_taken _ _ c.args.pending.now c.loop-i.pending _ _ (strips_padded 0 c.args.strips.now)
          (subst (λ (xs : List (List ℕ)). HasPut g.W.Sink.bytes_taken c.args.writer.now c.loop-i.writer c.args.pending.now c.loop-i.pending
          (flat_map padded xs)) all c.loop-i.invariant.put),
      search rules,
    )
