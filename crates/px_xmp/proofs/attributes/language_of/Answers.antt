use Rattle.std.proofs.Common.{Option, Bor, option_map, List, ℕ, sym, subst, ◌∙◌}
use Rattle.px_xmp.specs.calls.Fits.{LanguageFits}
use Rattle.px_xmp.proofs.attributes.language_of.Goals as goal

abbrev Bytes : Type 0
Bytes = Bor (List ℕ)

pub returns-then-not-is_language-clause-accepts : goal.returns-then-not-is_language-clause-accepts
returns-then-not-is_language-clause-accepts c fits =
    let (declares, short) = subst (λ (z : Option Bytes). LanguageFits (option_map (λ d. d.now) z)) c.in-Some.is fits in
    sym c.if-not-is_language.true ∙ c.is_language.ensures.accepts declares short
