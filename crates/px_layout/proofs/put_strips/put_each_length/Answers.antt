use Rattle.std.proofs.Common.{◌≡◌, ◌∙◌, ℕ, List, length, map, take, flat_map, arith, subst, rules}
use Rattle.std.proofs.lemmas.List.{take_all, length-map}
use Rattle.std.proofs.lemmas.Result.{err_from_is_err_and}
use Rattle.px_bytes.specs.lemmas.WaitingLaws.{HasPut}
use Rattle.px_layout.specs.Laid.{long_bytes}
use Rattle.px_layout.specs.lemmas.PutLaws.{more_after, stop_after}
use Rattle.px_layout.proofs.put_strips.put_each_length.Goals as goal

abbrev size : List ℕ → ℕ
size x = length x

pub returns-in_err-put : goal.returns-in_err-put
returns-in_err-put g c =
    let p = err_from_is_err_and c.from_residual.result c.from_residual.ensures.1 in
    rw p.1 (
      stop_after g.W.Sink.bytes_taken (long_bytes c.args.order) (map size c.args.strips.now) c.loop-i.i _ _ c.encode_each.ensures
          _ _ _ c.args.pending.now c.loop-i.pending c.loop-i.invariant.put (c.in_err-put.ensures.bytes, c.in_err-put.ensures.waits),
      search rules,
    )

pub loop-i-preserved : goal.loop-i-preserved
loop-i-preserved g c = record {
  inside = omega (arith, c.min-count.ensures, c.loop-i.invariant.inside);
  put = more_after g.W.Sink.bytes_taken (long_bytes c.args.order) (map size c.args.strips.now) c.loop-i.i _ _ c.encode_each.ensures
      _ _ _ c.args.pending.now c.loop-i.pending c.put.new.self c.loop-i.invariant.put
      (c.in_ok-put.ensures.bytes, c.in_ok-put.ensures.waits);
  count = c.in_ok-put.ensures.count ∙ c.loop-i.invariant.count;
}

pub returns : goal.returns
returns g c =
    let inside = c.loop-i.invariant.inside in
    let all : take c.loop-i.i (map size c.args.strips.now) ≡ map size c.args.strips.now =
    take_all c.loop-i.i (map size c.args.strips.now) (omega (arith, length-map c.args.strips.now size)) in (
      subst (λ (xs : List ℕ). HasPut g.W.Sink.bytes_taken c.args.writer.now c.loop-i.writer c.args.pending.now c.loop-i.pending
          (flat_map (long_bytes c.args.order) xs)) all c.loop-i.invariant.put,
      search rules,
    )
