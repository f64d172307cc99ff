use Rattle.std.proofs.Common.{length, ap, ◌∙◌, ◌∷◌, arith}
use Rattle.std.proofs.lemmas.List.{length-set}
use Rattle.px_xmp_document.specs.calls.Entries.{entry_view}
use Rattle.px_xmp_document.proofs.ScopeLaws.{length_entries_of, entries_push}
use Rattle.px_xmp_document.proofs.scopes.Scope.put.Goals as goal

pub bounds-self-inside-self-inside : goal.bounds-self-inside-self-inside
bounds-self-inside-self-inside c =
    let all = c.self.invariant.1 in
    let l = length_entries_of c.self.inside.len c.self.inside.entries (omega (arith, all, c.self.invariant.0)) in
    let e = ap length c.self.view_is in
    omega (arith, l, e, c.requires)

pub invariant_of-self : goal.invariant_of-self
invariant_of-self c =
    let all = c.self.invariant.1 in
    let l = length_entries_of c.self.inside.len c.self.inside.entries (omega (arith, all, c.self.invariant.0)) in
    let e = ap length c.self.view_is in
    (omega (arith, l, e, c.requires), length-set c.self.inside.entries c.self.inside.len c.args.entry ∙ all)

pub returns : goal.returns
returns c =
    let all = c.self.invariant.1 in
    let l = length_entries_of c.self.inside.len c.self.inside.entries (omega (arith, all, c.self.invariant.0)) in
    let e = ap length c.self.view_is in
    entries_push c.self.inside.len c.self.inside.entries c.args.entry (omega (arith, all, l, e, c.requires))
    ∙ ap (λ x. entry_view c.args.entry ∷ x) c.self.view_is
