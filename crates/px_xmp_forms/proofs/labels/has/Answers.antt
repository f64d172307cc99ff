use Rattle.std.proofs.Common.{◌≡◌, ◌==◌, ◌||◌, ℕ, Bool, List, [], ◌∷◌, refl, ap, ◌∙◌}
use Rattle.std.specs.List.{list_any}
use Rattle.px_xmp_forms.specs.Forms.{has}
use Rattle.px_xmp_forms.proofs.labels.has.Goals as goal

any_is : (d : ℕ) (x : List ℕ) → list_any (λ o. o == d) x ≡ has d x
any_is d [] = refl
any_is d (o ∷ x) = ap (λ (b : Bool). (o == d) || b) (any_is d x)

pub returns : goal.returns
returns c = c.contains.ensures.value ∙ any_is c.args.octet c.args.octets.now
