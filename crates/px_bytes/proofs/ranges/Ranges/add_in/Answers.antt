use Rattle.std.proofs.Common.{◌+◌, sym, arith}
use Rattle.px_bytes.specs.lemmas.RangeLaws.{is_free_free, agrees_takes}
use Rattle.std.proofs.Common.{◌<◌, Result, Ok, Err, OnErr}
use Rattle.std.proofs.Common.{List, ℕ, ◌≤◌, subst}
use Rattle.px_bytes.specs.Claimed.{reach, claimed_bytes}
use Rattle.px_bytes.specs.calls.Marked.{Once}
use Rattle.px_bytes.proofs.marks.ClaimedOnce.{once_more, claimed_within, words_more}
use Rattle.px_bytes.proofs.marks.RangesApart.{free_clear, not_free, one_more, taken_marked}
use Rattle.px_bytes.proofs.ranges.Ranges.add_in.Goals as goal

pub returns-then-not-branch-clause-listed : goal.returns-then-not-branch-clause-listed
returns-then-not-branch-clause-listed c =
    rw (← c.self.view_is) (λ taken agrees. (
      sym (not_free taken _ _ c.args.start c.args.len agrees c.self.invariant.1 (c.in_ok-put.ensures.taken c.if-not-branch.true)),
      λ clash. absurd (cc),
    ))

on_err : {A E P : Type 0} (r : Result A E) → P → OnErr r P
on_err (Ok x) p = tt
on_err (Err e) p = p

pub returns-in_err-put-clause-needed : goal.returns-in_err-put-clause-needed
returns-in_err-put-clause-needed c =
    let some : 0 < c.args.len = omega (arith, c.if-len-eq0.false) in
    let end = c.args.start + c.args.len in
    on_err c.from_residual.result
    (some, rw (← c.self.view_is) (free_clear _ _ c.args.start end c.self.invariant.1 c.in_err-put.ensures.needed))

pub invariant_of-self-2 : goal.invariant_of-self-2
invariant_of-self-2 c =
    let end = c.args.start + c.args.len in
    let more = one_more _ _ c.args.start end _ _ c.self.invariant.0 c.self.invariant.1 (omega arith)
    (c.in_ok-put.ensures.free c.if-not-branch.false) (c.in_ok-put.ensures.puts c.if-not-branch.false) c.with-listed.ensures in
    let once = once_more _ c.args.start end _ _ c.self.invariant.2 (omega arith)
    (c.in_ok-put.ensures.free c.if-not-branch.false) (c.in_ok-put.ensures.puts c.if-not-branch.false) in (
      more.apart,
      more.marked,
      subst (λ (xs : List (ℕ × ℕ)). Once xs c.put.new.words.items) (sym c.with-listed.ensures) once,
      words_more _ _ c.args.start end _ _ c.self.invariant.3 (c.in_ok-put.ensures.len c.if-not-branch.false) c.with-listed.ensures,
    )

pub returns-then-not-branch-clause-taken : goal.returns-then-not-branch-clause-taken
returns-then-not-branch-clause-taken c = λ _.
    let end = c.args.start + c.args.len in
    rw (← c.self.view_is) (taken_marked _ _ c.args.start end c.self.invariant.1 (c.in_ok-put.ensures.taken c.if-not-branch.true))

pub returns-clause-within : goal.returns-clause-within
returns-clause-within c = λ _ some.
    let once = once_more _ c.args.start (c.args.start + c.args.len) _ _ c.self.invariant.2 (omega arith)
    (c.in_ok-put.ensures.free c.if-not-branch.false) (c.in_ok-put.ensures.puts c.if-not-branch.false) in
    subst (λ (xs : List (ℕ × ℕ)). claimed_bytes xs ≤ reach xs) (sym c.with-listed.ensures) (claimed_within _ _ once)

pub returns-clause-free : goal.returns-clause-free
returns-clause-free c = λ _.
    let end = c.args.start + c.args.len in
    let more = one_more _ _ c.args.start end _ _ c.self.invariant.0 c.self.invariant.1 (omega arith)
    (c.in_ok-put.ensures.free c.if-not-branch.false) (c.in_ok-put.ensures.puts c.if-not-branch.false) c.with-listed.ensures in
    rw (← c.self.view_is) more.free

pub returns-clause-claimed : goal.returns-clause-claimed
returns-clause-claimed c = λ _ some.
    let end = c.args.start + c.args.len in
    let more = one_more _ _ c.args.start end _ _ c.self.invariant.0 c.self.invariant.1 (omega arith)
    (c.in_ok-put.ensures.free c.if-not-branch.false) (c.in_ok-put.ensures.puts c.if-not-branch.false) c.with-listed.ensures in
    rw (← c.self.view_is) more.takes

pub returns-clause-listed : goal.returns-clause-listed
returns-clause-listed c =
    let end = c.args.start + c.args.len in
    let more = one_more _ _ c.args.start end _ _ c.self.invariant.0 c.self.invariant.1 (omega arith)
    (c.in_ok-put.ensures.free c.if-not-branch.false) (c.in_ok-put.ensures.puts c.if-not-branch.false) c.with-listed.ensures in
    rw (← c.self.view_is) (λ taken agrees. (
      sym (is_free_free taken _ c.args.start c.args.len agrees more.free),
      λ _. agrees_takes taken _ _ c.args.start c.args.len agrees more.takes,
    ))
