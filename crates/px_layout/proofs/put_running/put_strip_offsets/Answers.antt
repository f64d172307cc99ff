use Rattle.std.proofs.Common.{refl, sym, ◌≡◌, ◌∙◌, ℕ, List, take, flat_map, arith, subst, rules}
use Rattle.std.proofs.lemmas.List.{take_all}
use Rattle.std.proofs.lemmas.Result.{err_from_is_err_and}
use Rattle.px_bytes.specs.lemmas.WaitingLaws.{put_none, HasPut}
use Rattle.px_bytes.specs.declared.Order.TheVariants.{Most}
use Rattle.px_layout.specs.Laid.{long_bytes}
use Rattle.px_layout.specs.calls.Given.{strip_places}
use Rattle.px_bytes.specs.Devices.{CanCountFailure}
use Rattle.px_bytes.specs.Parts.{limit}
use Rattle.px_layout.specs.lemmas.PutLaws.{more_after, stop_after}
use Rattle.px_layout.proofs.writing.Runs.{length_places}
use Rattle.px_layout.proofs.writing.StripPieces.{each_below}
use Rattle.px_layout.proofs.put_running.put_strip_offsets.Goals as goal

pub returns-in_err-put : goal.returns-in_err-put
returns-in_err-put g c =
    let p = err_from_is_err_and c.from_residual.result c.from_residual.ensures.1 in
    rw p.1 (
      stop_after g.W.Sink.bytes_taken (long_bytes Most) (strip_places c.args.at c.args.strips.now) c.loop-i.i _ _
          (c.encode_offsets-next.ensures.encoded c.args.at c.loop-i.invariant.left)
          _ _ _ c.args.pending.now c.loop-i.pending c.loop-i.invariant.put (c.in_err-put.ensures.bytes, c.in_err-put.ensures.waits),
      search rules,
    )

pub loop-i-preserved : goal.loop-i-preserved
loop-i-preserved g c = record {
  inside = omega (arith, c.min-count.ensures, c.loop-i.invariant.inside);
  put = more_after g.W.Sink.bytes_taken (long_bytes Most) (strip_places c.args.at c.args.strips.now) c.loop-i.i _ _
      (c.encode_offsets-next.ensures.encoded c.args.at c.loop-i.invariant.left)
      _ _ _ c.args.pending.now c.loop-i.pending c.put.new.self c.loop-i.invariant.put
      (c.in_ok-put.ensures.bytes, c.in_ok-put.ensures.waits);
  count = c.in_ok-put.ensures.count ∙ c.loop-i.invariant.count;
  left = c.encode_offsets-next.ensures.next ∙ c.loop-i.invariant.left;
}

pub returns : goal.returns
returns g c =
    let inside = c.loop-i.invariant.inside in
    let all : take c.loop-i.i (strip_places c.args.at c.args.strips.now) ≡ strip_places c.args.at c.args.strips.now =
    take_all c.loop-i.i (strip_places c.args.at c.args.strips.now) (omega (arith, length_places c.args.at c.args.strips.now)) in (
      subst (λ (xs : List ℕ). HasPut g.W.Sink.bytes_taken c.args.writer.now c.loop-i.writer c.args.pending.now c.loop-i.pending
          (flat_map (long_bytes Most) xs)) all c.loop-i.invariant.put,
      c.loop-i.invariant.count,
    )

pub loop-i-init : goal.loop-i-init
loop-i-init g c = record {
  inside = omega arith;
  put = put_none g.W.Sink.bytes_taken c.args.writer.now c.args.pending.now;
  count = refl;
  left = refl;
}

pub put-requires : goal.put-requires
put-requires g c = subst CanCountFailure (sym c.loop-i.invariant.count) c.requires.few

pub encode_offsets-next-requires-clause-short : goal.encode_offsets-next-requires-clause-short
encode_offsets-next-requires-clause-short g c = each_below limit c.args.strips.now (let most = c.requires.most in omega arith)
