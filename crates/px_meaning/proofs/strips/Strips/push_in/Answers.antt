use Rattle.std.proofs.Common.{◌≤◌, List, ℕ, length, map, sym, subst, arith}
use Rattle.std.proofs.lemmas.List.{length-map, length-append}
use Rattle.px_meaning.proofs.Added.{one_more}
use Rattle.px_meaning.specs.calls.Strips.{named_strips}
use Rattle.px_meaning.proofs.strips.Strips.push_in.Goals as goal

pub returns-clause-asked : goal.returns-clause-asked
returns-clause-asked c =
    let list = c.self.inside.list in
    let pushed = map (λ x. x.now) list.items in
    let all = length-append (named_strips c.self.inside.named) pushed in
    let mapped = length-map list.items (λ x. x.now) in
    let same = list.ok.0 in
    rw (← c.self.view_is) (one_more _ _ _ _ _ _ (omega (arith, all, mapped, same)) list.ok.1 c.in_ok-push.ensures.fits
    c.in_ok-push.ensures.asked)

pub returns-in_err-push-clause-asked : goal.returns-in_err-push-clause-asked
returns-in_err-push-clause-asked c =
    let list = c.self.inside.list in
    let pushed = map (λ x. x.now) list.items in
    let all = length-append (named_strips c.self.inside.named) pushed in
    let mapped = length-map list.items (λ x. x.now) in
    let same = list.ok.0 in
    rw (← c.self.view_is) (one_more _ _ _ _ _ _ (omega (arith, all, mapped, same)) list.ok.1 c.in_err-push.ensures.fits
    c.in_err-push.ensures.asked)
