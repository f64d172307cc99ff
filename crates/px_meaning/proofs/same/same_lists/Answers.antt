use Rattle.std.proofs.Common.{◌≡◌, length, arith, rules}
use Rattle.px_bytes.specs.lemmas.SameLaws.{same_by_get}
use Rattle.px_meaning.proofs.same.same_lists.Goals as goal

pub returns : goal.returns
returns c =
    let lengths : length c.args.a.now ≡ length c.args.b.now = omega arith in
    let same = same_by_get _ _ lengths (λ k below. c.loop-i.invariant k (omega arith)) in
    (λ _. same, λ _. search rules)
