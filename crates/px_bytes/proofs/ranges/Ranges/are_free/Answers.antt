use Rattle.std.proofs.Common.{ℕ, List, subst}
use Rattle.px_bytes.specs.calls.Marks.{IsClear, HasOne}
use Rattle.px_bytes.proofs.marks.RangesApart.{free_clear, taken_marked}
use Rattle.px_bytes.proofs.ranges.Ranges.are_free.Goals as goal

pub returns-clause-free : goal.returns-clause-free
returns-clause-free c = λ e.
    let clear = subst (λ (words : List ℕ). IsClear words c.args.start c.args.end) c.deref.ensures.value (c.are_clear.ensures.clear e) in
    rw (← c.self.view_is) (free_clear _ c.self.inside.marks.items c.args.start c.args.end c.self.invariant.1 clear)

pub returns-clause-taken : goal.returns-clause-taken
returns-clause-taken c = λ e.
    let one = subst (λ (words : List ℕ). HasOne words c.args.start c.args.end) c.deref.ensures.value (c.are_clear.ensures.marked e) in
    rw (← c.self.view_is) (taken_marked _ c.self.inside.marks.items c.args.start c.args.end c.self.invariant.1 one)
