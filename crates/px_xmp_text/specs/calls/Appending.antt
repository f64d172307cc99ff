-- How a normal form is appended, part by part.
use Rattle.std.specs.Prelude.{◌≡◌, ◌==◌, ◌&&◌, ℕ, suc, Bool, not, nat_le, if◌then◌else◌, Some, List, [], ◌∷◌, ◌++◌, drop}
use Rattle.px_xmp_text.specs.Texts.{text_in, normal_text}
use Rattle.px_xmp_text.specs.declared.pieces.TextKind.{TextKind}

-- an octet that means itself and is its own normal form
abbrev pub is_plain : ℕ → Bool
is_plain o = nat_le 32 o && not (o == 38) && not (o == 60) && not (o == 62)

-- the number of plain octets at the start
abbrev pub plain_len : List ℕ → ℕ
plain_len [] = 0
plain_len (o ∷ x) = if is_plain o then suc (plain_len x) else 0

-- n octets of x mean a part of the text t, whose normal form was appended; what is left means the rest
pub record AppendsPart (k : TextKind) (x t : List ℕ) (n : ℕ) (old new : List ℕ) : Type 0 where
  pub part : List ℕ
  pub later : List ℕ
  pub fuel : ℕ
  pub rest : text_in fuel k (drop n x) ≡ Some later
  pub joined : t ≡ part ++ later
  pub appended : new ≡ old ++ normal_text part
