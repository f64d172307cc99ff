use Rattle.std.proofs.Common.{sym, subst, ◌∙◌, option_map, List, ℕ}
use Rattle.px_xmp_marks.specs.Reading.{next_view}
use Rattle.px_xmp.specs.calls.Listed.{ArePlain}
use Rattle.px_xmp.proofs.TagLaws.{next_left, whole_left}
use Rattle.px_xmp.proofs.scope.Scope.open.Goals as goal

pub loop-next-preserved : goal.loop-next-preserved
loop-next-preserved c =
    record {
      failed_allocations = c.in_ok-declare.ensures.memory ∙ c.loop-next.invariant.failed_allocations;
      left = λ all l.
          next_left c.attributes_in_order.ensures c.loop-next.rest.now c.loop-next.self c.declare.new.self c.args.self.now
          (option_map (λ x. x.now) c.loop-next.noted.language) (option_map (λ x. x.now) c.language_after.result)
          (option_map (λ x. x.now) c.loop-next.noted.first) (option_map (λ x. x.now) c.first_after.result) all (next_view c.in-Some.next)
          (c.loop-next.invariant.left all l) (sym c.in-Some.ensures.value) c.in_ok-declare.ensures.items c.language_after.ensures
          c.first_after.ensures;
    }

pub returns-clause-items : goal.returns-clause-items
returns-clause-items c all l =
    let (scope, language, plain) =
    whole_left c.attributes_in_order.ensures c.loop-next.rest.now c.loop-next.self c.args.self.now
    (option_map (λ x. x.now) c.loop-next.noted.language) (option_map (λ x. x.now) c.loop-next.noted.first) all
    (c.loop-next.invariant.left all l) (sym c.in_default.ensures.value) in
    scope

pub returns-clause-tag : goal.returns-clause-tag
returns-clause-tag c all l =
    let (scope, language, plain) =
    whole_left c.attributes_in_order.ensures c.loop-next.rest.now c.loop-next.self c.args.self.now
    (option_map (λ x. x.now) c.loop-next.noted.language) (option_map (λ x. x.now) c.loop-next.noted.first) all
    (c.loop-next.invariant.left all l) (sym c.in_default.ensures.value) in
    (c.whole.ensures.language ∙ language, subst (λ (z : List ℕ). ArePlain z all) (sym c.whole.ensures.attributes) plain)
