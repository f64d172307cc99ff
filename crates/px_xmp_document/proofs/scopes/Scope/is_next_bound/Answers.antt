use Rattle.std.proofs.Common.{◌||◌, [], List, ℕ, is_some, sym, ap, ◌∙◌}
use Rattle.std.specs.Cmp.Lexicographic.{same_text}
use Rattle.px_xmp_document.specs.Scopes.{is_same, space_of}
use Rattle.px_xmp_document.proofs.scopes.Scope.is_next_bound.Goals as goal

pub returns-then-eq : goal.returns-then-eq
returns-then-eq c =
    let same = same_text c.args.name.prefix.now c.args.last.now (sym (sym c.eq.ensures ∙ c.if-eq.true)) in
    sym (ap (λ (p : List ℕ). is_same p [] || is_some (space_of p c.args.self.now)) same ∙ c.requires)
