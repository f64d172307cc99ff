use Rattle.std.proofs.Common.{ℕ, Some, sym, ap, ◌∙◌}
use Rattle.px_plans.proofs.plans.Keyed.{offset_found, offset_gap}
use Rattle.px_plans.proofs.keyed.KeyedOffsets.offset.Goals as goal

pub returns-in-Ok : goal.returns-in-Ok
returns-in-Ok c =
    ap (λ (p : ℕ × ℕ). Some p.1) c.index.ensures
    ∙ sym (offset_found _ _ _ _ c.args.self.now.ordered (rw c.deref.ensures.value at c.in-Ok.ensures.found))

pub returns-in-Err : goal.returns-in-Err
returns-in-Err c = sym (offset_gap _ _ _ (rw c.deref.ensures.value at c.in-Err.ensures.absent))
