use Rattle.std.proofs.Common.{refl, subst, sym, ◌≡◌, ◌∙◌, ◌*◌, ℕ, List, take, ap, arith, rules}
use Rattle.std.proofs.lemmas.Grind.{common_steps}
use Rattle.std.proofs.lemmas.Result.{err_from_is_err_and}
use Rattle.px_field.specs.Values.{encode}
use Rattle.px_bytes.specs.lemmas.WaitingLaws.{put_none}
use Rattle.px_bytes.specs.Devices.{CanCountFailure}
use Rattle.px_layout.specs.lemmas.PutLaws.{more_many, stop_many}
use Rattle.px_layout.proofs.put.put_by_pieces.Goals as goal

-- the bytes of n elements, by their width
by_width : (n w s : ℕ) (piece ys : List ℕ) → w ≡ s → take (n * s) piece ≡ ys → take (n * w) piece ≡ ys
by_width n w s piece ys e h = ap (λ (k : ℕ). take (n * k) piece) e ∙ h

pub returns-in_err-put : goal.returns-in_err-put
returns-in_err-put g c =
    let p = err_from_is_err_and c.from_residual.result c.from_residual.ensures.1 in
    rw p.1 (
      stop_many g.W.Sink.bytes_taken (encode c.args.order) c.args.value.now.elements c.loop-i.i c.encode_many-count.result _
          (by_width _ _ _ _ _ c.width-width.ensures c.encode_many-count.ensures.front)
          _ _ _ c.args.pending.now c.loop-i.pending c.loop-i.invariant.put (c.in_err-put.ensures.bytes, c.in_err-put.ensures.waits),
      search rules,
    )

pub loop-i-preserved : goal.loop-i-preserved
loop-i-preserved g c = record {
  inside = omega (arith, c.encode_many-count.ensures.count, c.loop-i.invariant.inside);
  put = more_many g.W.Sink.bytes_taken (encode c.args.order) c.args.value.now.elements c.loop-i.i c.encode_many-count.result _
      (by_width _ _ _ _ _ c.width-width.ensures c.encode_many-count.ensures.front)
      _ _ _ c.args.pending.now c.loop-i.pending c.put.new.self c.loop-i.invariant.put
      (c.in_ok-put.ensures.bytes, c.in_ok-put.ensures.waits);
  count = c.in_ok-put.ensures.count ∙ c.loop-i.invariant.count;
}

pub loop-i-init : goal.loop-i-init
loop-i-init g c = record {
  inside = omega arith;
  put = put_none g.W.Sink.bytes_taken c.args.writer.now c.args.pending.now;
  count = refl;
}

pub put-requires : goal.put-requires
put-requires g c = subst CanCountFailure (sym c.loop-i.invariant.count) c.requires.few

pub returns : goal.returns
returns g c =
    (grind (arith, common_steps), c.loop-i.invariant.count)
