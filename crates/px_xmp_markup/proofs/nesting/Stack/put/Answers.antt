use Rattle.std.proofs.Common.{length, ap, ◌∙◌, ◌∷◌, arith}
use Rattle.std.proofs.lemmas.List.{length-set}
use Rattle.px_xmp_marks.specs.Reading.{name_view}
use Rattle.px_xmp_markup.proofs.StackLaws.{length_stack_of, stack_push}
use Rattle.px_xmp_markup.proofs.nesting.Stack.put.Goals as goal

pub bounds-self-inside-self-inside : goal.bounds-self-inside-self-inside
bounds-self-inside-self-inside c =
    let all = c.self.invariant.1 in
    let l = length_stack_of c.self.inside.len c.self.inside.names (omega (arith, all, c.self.invariant.0)) in
    let e = ap length c.self.view_is in
    omega (arith, l, e, c.requires)

pub invariant_of-self : goal.invariant_of-self
invariant_of-self c =
    let all = c.self.invariant.1 in
    let l = length_stack_of c.self.inside.len c.self.inside.names (omega (arith, all, c.self.invariant.0)) in
    let e = ap length c.self.view_is in
    (omega (arith, l, e, c.requires), length-set c.self.inside.names c.self.inside.len c.args.name ∙ all)

pub returns : goal.returns
returns c =
    let all = c.self.invariant.1 in
    let l = length_stack_of c.self.inside.len c.self.inside.names (omega (arith, all, c.self.invariant.0)) in
    let e = ap length c.self.view_is in
    stack_push c.self.inside.len c.self.inside.names c.args.name (omega (arith, all, l, e, c.requires))
    ∙ ap (λ x. name_view c.args.name ∷ x) c.self.view_is
