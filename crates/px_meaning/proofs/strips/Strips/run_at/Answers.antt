use Rattle.std.proofs.Common.{◌+◌, ℕ, Option, List, length, map, sym, ap, subst, arith}
use Rattle.px_meaning.specs.declared.strip_lists.StripLists.{StripLists}
use Rattle.px_meaning.specs.calls.Strips.{AreJoined, named_strips}
use Rattle.px_meaning.proofs.tables.StripBytes.{front_length, strips_length}
use Rattle.px_meaning.proofs.tables.StripRuns.{joined_front, one_joined}
use Rattle.px_meaning.proofs.strips.Strips.run_at.Goals as goal

pub returns-then-i-count-clause-inside : goal.returns-then-i-count-clause-inside
returns-then-i-count-clause-inside c =
    let pushed = map (λ x. x.now) c.self.inside.list.items in
    let all = strips_length c.self.inside.named c.in-Some.lists c.in-Some.is c.self.invariant pushed in
    let same = ap (λ (xs : List (List ℕ)). length xs) c.self.view_is in
    let inside = c.run_in.ensures.inside in
    omega arith

pub returns-then-i-count-clause-bytes : goal.returns-then-i-count-clause-bytes
returns-then-i-count-clause-bytes c =
    let named = c.self.inside.named in
    let pushed = map (λ x. x.now) c.self.inside.list.items in
    let run = c.run_in.result in
    let front = front_length named c.in-Some.lists c.in-Some.is c.self.invariant in
    let inside = c.run_in.ensures.inside in
    rw (← c.self.view_is) (
    joined_front (named_strips named) pushed c.args.i (c.args.i + run.count) run.bytes.now (omega arith) (omega arith)
    (subst (λ (o : Option StripLists). AreJoined (named_strips o) c.args.i (c.args.i + run.count) run.bytes.now) (sym c.in-Some.is)
    c.run_in.ensures.bytes))

pub returns-clause-bytes : goal.returns-clause-bytes
returns-clause-bytes c = one_joined c.args.self.now c.args.i c.at.result.now c.at.ensures
