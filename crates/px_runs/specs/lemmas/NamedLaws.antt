-- A name has at most one file.
use Rattle.std.proofs.Common.{◌≡◌, ◌∙◌, ℕ, Option, List, [], ◌∷◌, sym, inl, inr}
use Rattle.px_runs.specs.declared.named.NamedFile.{NamedFile}
use Rattle.px_runs.specs.Named.{HasFile}

pub one_file : (fs : List NamedFile) (name : List ℕ) (x y : Option (List ℕ)) → HasFile fs name x → HasFile fs name y → x ≡ y
one_file [] name x y h k = h ∙ sym k
one_file (f ∷ fs) name x y (inl h) (inl k) = h.1 ∙ sym k.1
one_file (f ∷ fs) name x y (inl h) (inr k) = absurd (k.0 h.0)
one_file (f ∷ fs) name x y (inr h) (inl k) = absurd (h.0 k.0)
one_file (f ∷ fs) name x y (inr h) (inr k) = one_file fs name x y h.1 k.1
