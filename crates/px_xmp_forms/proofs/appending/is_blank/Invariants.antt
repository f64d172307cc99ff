use Rattle.std.proofs.Common.{◌≡◌, ℕ, List, length}
use Rattle.px_xmp_text.specs.Texts.{normal_text}
use Rattle.px_xmp_forms.specs.Forms.{is_white}
use Rattle.px_xmp_forms.proofs.appending.is_blank.Given as goal

abbrev pub invariant-loop-rest : goal.invariant-loop-rest
invariant-loop-rest l = (t : List ℕ) → l.form ≡ normal_text t → (u : List ℕ) × (l.rest ≡ normal_text u) × (is_white u ≡ is_white t)

abbrev pub decreases-loop-rest : goal.decreases-loop-rest
decreases-loop-rest l = length l.rest
