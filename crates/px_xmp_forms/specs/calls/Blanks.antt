-- The white space at the start of a form.
use Rattle.std.specs.Prelude.{◌≡◌, ◌≤◌, ℕ, true, false, List, drop}
use Rattle.px_xmp_text.specs.Texts.{normal_text}
use Rattle.px_xmp_forms.specs.Forms.{is_space}

-- n octets of the form x of a text are its first character o, before t, if that is white space; otherwise n is 0
abbrev pub BeginsWithSpace : List ℕ → ℕ → List ℕ → ℕ → Type 0
BeginsWithSpace x o t n = (is_space o ≡ true → (1 ≤ n) × (drop n x ≡ normal_text t)) × (is_space o ≡ false → n ≡ 0)
