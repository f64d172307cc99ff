use Rattle.std.proofs.Common.{◌+◌, inl, inr, ap, arith}
use Rattle.px_tree.specs.calls.Paying.{paid}
use Rattle.px_tree.proofs.reading.Paying.{paid_added, paid_same, extent_added, extent_same}
use Rattle.px_tree.proofs.claiming.claim_range.Goals as goal

pub returns-in_err-add_in-clause-asked : goal.returns-in_err-add_in-clause-asked
returns-in_err-add_in-clause-asked c =
    let same = paid_same _ _ _ _ c.in_err-add_in.ensures.err (c.in_err-add_in.ensures.fits c.requires.capacity).1 in
    omega arith

pub returns-in_err-add_in-clause-below : goal.returns-in_err-add_in-clause-below
returns-in_err-add_in-clause-below c = extent_same _ _ (c.args.start + c.args.len) c.in_err-add_in.ensures.err

pub returns-then-not-branch-clause-asked : goal.returns-then-not-branch-clause-asked
returns-then-not-branch-clause-asked c =
    let same = paid_same _ _ _ _ (c.in_ok-add_in.ensures.same (inl c.if-not-branch.true)) (c.in_ok-add_in.ensures.fits c.requires.capacity).1 in
    omega arith

pub returns-then-not-branch-clause-below : goal.returns-then-not-branch-clause-below
returns-then-not-branch-clause-below c =
    extent_same _ _ (c.args.start + c.args.len) (c.in_ok-add_in.ensures.same (inl c.if-not-branch.true))

pub returns-clause-claimed : goal.returns-clause-claimed
returns-clause-claimed c = paid_added _ _ c.args.start c.args.len _ _ (λ none. c.in_ok-add_in.ensures.same (inr none))
    (c.in_ok-add_in.ensures.first c.if-not-branch.false) (c.in_ok-add_in.ensures.fits c.requires.capacity).1

pub returns-clause-asked : goal.returns-clause-asked
returns-clause-asked c =
    let claimed = paid_added _ _ c.args.start c.args.len _ _ (λ none. c.in_ok-add_in.ensures.same (inr none))
    (c.in_ok-add_in.ensures.first c.if-not-branch.false) (c.in_ok-add_in.ensures.fits c.requires.capacity).1 in
    omega arith

pub returns-clause-below : goal.returns-clause-below
returns-clause-below c = extent_added _ _ c.args.start c.args.len (λ none. c.in_ok-add_in.ensures.same (inr none))
    (c.in_ok-add_in.ensures.first c.if-not-branch.false) (c.in_ok-add_in.ensures.within c.if-not-branch.false)
