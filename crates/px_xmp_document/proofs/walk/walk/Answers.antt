use Rattle.std.proofs.Common.{◌≡◌, IfSome, [], length, drop, sym, ap, subst, arith, drop-drop, length-drop}
use Rattle.std.proofs.lemmas.List.{drop_all}
use Rattle.px_xmp_markup.specs.Nesting.{Among}
use Rattle.px_xmp_markup.specs.TreeFaults.{IsFaulty}
use Rattle.px_xmp_document.specs.calls.Walks.{Goes}
use Rattle.px_xmp_document.proofs.WalkLaws.{Before, none_before, one_more, all_passed, wrong_here}
use Rattle.px_xmp_document.proofs.walk.walk.Goals as goal

pub loop-at-init : goal.loop-at-init
loop-at-init c =
    let x = c.args.octets.now in
    record {
      within = omega arith;
      read = subst (λ p. Before x x p c.new-scope.result) (sym c.new-nesting.ensures)
          (subst (λ s. Before x x (Among []) s) (sym c.new-scope.ensures) (none_before x));
    }

pub loop-at-preserved : goal.loop-at-preserved
loop-at-preserved c =
    let x = c.args.octets.now in
    let at = c.loop-at.at in
    let n = c.in-Ok.size in
    let back = c.split_at.ensures.back in
    let p = c.loop-at.nesting in
    let q = c.pass.new.nesting in
    let s = c.loop-at.scope in
    let u = c.pass.new.scope in
    let goes : Goes (drop at x) n p q s u = subst (λ y. Goes y n p q s u) back c.in-Ok.ensures.passed.2 in
    let read : Before x (drop n (drop at x)) q u = one_more c.steps_lead.ensures x (drop at x) n p q s u c.loop-at.invariant.read goes in
    record {
      within = omega (arith, c.in-Ok.ensures.passed.1, ap length back, length-drop at x, c.loop-at.invariant.within);
      read = subst (λ z. Before x z q u) (drop-drop n at x) read;
    }

pub returns-in-None-cut-clause-right : goal.returns-in-None-cut-clause-right
returns-in-None-cut-clause-right c t =
    let x = c.args.octets.now in
    let at = c.loop-at.at in
    let end : drop at x ≡ [] = drop_all at x (omega (arith, c.loop-at-test.false)) in
    all_passed x c.loop-at.scope
    (subst (λ p. Before x [] p c.loop-at.scope) c.in-None-cut.ensures
    (subst (λ y. Before x y c.loop-at.nesting c.loop-at.scope) end c.loop-at.invariant.read))

pub returns-in-Some-clause-wrong : goal.returns-in-Some-clause-wrong
returns-in-Some-clause-wrong c =
    let p = c.loop-at.nesting in
    let v = c.loop-at.invariant in
    let wrong = subst (λ e. IfSome e (λ k. IsFaulty p c.split_at.result.1.now k)) c.in-Some.is c.in-Err.ensures.wrong in
    wrong_here c.args.octets.now c.loop-at.at p c.loop-at.scope c.in-Some.cause v.within v.read
    (subst (λ y. IsFaulty p y c.in-Some.cause) c.split_at.ensures.back wrong)
