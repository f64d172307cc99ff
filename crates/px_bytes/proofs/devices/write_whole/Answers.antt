use Rattle.std.proofs.Common.{◌≡◌, ◌-◌, ℕ, length, take, drop, arith, ◌∙◌, ap}
use Rattle.std.proofs.lemmas.Grind.{common_steps}
use Rattle.px_bytes.proofs.Pieces.{appends_more, begun_more}
use Rattle.px_bytes.proofs.devices.write_whole.Goals as goal

pub loop-at-preserved : goal.loop-at-preserved
loop-at-preserved g c =
    let whole : take (length c.args.bytes.now - c.loop-at.at) (drop c.loop-at.at c.args.bytes.now) ≡ drop c.loop-at.at c.args.bytes.now =
    grind (arith, common_steps) in (
      omega (arith, c.in-Ok.ensures.bound),
      appends_more _ _ _ c.args.bytes.now c.loop-at.at c.in-Ok.n c.loop-at.invariant.1 (rw whole at c.in-Ok.ensures.bytes),
      c.in-Ok.ensures.count ∙ c.loop-at.invariant.2,
      λ none. absurd (omega arith),
      begun_more g.W.Sink.wrote _ _ _ c.args.bytes.now _ c.loop-at.at c.in-Ok.n
          (λ e. whole ∙ ap (λ (k : ℕ). drop k c.args.bytes.now) e) (omega arith) c.loop-at.invariant.4 c.in-Ok.ensures.call,
    )
