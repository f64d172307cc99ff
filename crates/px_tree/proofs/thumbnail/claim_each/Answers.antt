use Rattle.std.proofs.Common.{◌∙◌, List, map, subst, sym}
use Rattle.std.specs.List.{AllByRecursion}
use Rattle.std.proofs.lemmas.Result.{err_from_is_err_and}
use Rattle.px_bytes.specs.Range.{Range, range}
use Rattle.px_meaning.specs.Thumbnail.{whole_number, ranges_of, IsInside}
use Rattle.px_tree.proofs.reading.StripRanges.{ranges_next, ranges_step, ranges_refuse}
use Rattle.std.proofs.Common.{arith}
use Rattle.px_tree.proofs.thumbnail.claim_each.Goals as goal

pub returns-in_err-claim-clause-judged : goal.returns-in_err-claim-clause-judged
returns-in_err-claim-clause-judged c = λ taken a.
    let p = err_from_is_err_and c.from_residual.result c.from_residual.ensures.1 in
    let xs = map whole_number c.args.lists.now.starts.elements in
    let ns = map whole_number c.args.lists.now.sizes.elements in
    let is = ranges_next xs ns c.loop-i.i c.number_in.result c.number_in-in-loop-i.result c.number_in.ensures c.number_in-in-loop-i.ensures
    in
    let s = c.loop-i.invariant.judged taken a in
    rw (p.1, p.2) (ranges_refuse c.args.lists.now.block.now c.args.place taken (ranges_of xs ns) _ _
    (range c.number_in.result c.number_in-in-loop-i.result) _ is s c.in_err-claim.field-0.0
    (c.in_err-claim.ensures.judged s.now s.agrees))

pub loop-i-preserved : goal.loop-i-preserved
loop-i-preserved c =
    let b = c.args.lists.now.block.now in
    let xs = map whole_number c.args.lists.now.starts.elements in
    let ns = map whole_number c.args.lists.now.sizes.elements in
    let is = ranges_next xs ns c.loop-i.i c.number_in.result c.number_in-in-loop-i.result c.number_in.ensures c.number_in-in-loop-i.ensures
    in
    let asked_before = c.loop-i.invariant.asked in
    let asked_claimed = c.in_ok-claim.ensures.asked in
    let below_before = c.loop-i.invariant.below in
    let below_claimed = c.in_ok-claim.ensures.below in
    record {
      judged = λ taken a.
          let s = c.loop-i.invariant.judged taken a in
          let k = c.in_ok-claim.ensures.judged s.now s.agrees in
          ranges_step b c.args.place taken (ranges_of xs ns) _ _ _ _ is s _ k.0 k.1;
      inside = λ rest. c.loop-i.invariant.inside
          (subst (λ (rs : List Range). AllByRecursion (IsInside b) rs) (sym is) (c.in_ok-claim.ensures.inside, rest));
      memory = c.in_ok-claim.ensures.memory ∙ c.loop-i.invariant.memory;
      asked = omega arith;
      below = omega arith;
      capacity = omega (arith, c.loop-i.invariant.capacity, c.in_ok-claim.ensures.capacity);
    }

pub returns-in_err-claim-clause-asked : goal.returns-in_err-claim-clause-asked
returns-in_err-claim-clause-asked c =
    let before = c.loop-i.invariant.asked in
    let claimed = c.in_err-claim.ensures.asked in
    omega arith

pub returns-in_err-claim-clause-below : goal.returns-in_err-claim-clause-below
returns-in_err-claim-clause-below c =
    let before = c.loop-i.invariant.below in
    let claimed = c.in_err-claim.ensures.below in
    omega arith
