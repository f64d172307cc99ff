-- Octets that are in no character that XML forbids.
use Rattle.std.specs.Prelude.{◌==◌, ◌&&◌, ◌||◌, ℕ, Bool, true, not, nat_le, List, [], ◌∷◌}

-- a forbidden character of UTF-8 is a control character below 32, or begins with 0xEF and 0xBF, as U+FFFE and U+FFFF do; the octet o
-- follows l
abbrev pub is_usual : ℕ → ℕ → Bool
is_usual l o = (nat_le 32 o || (o == 9) || (o == 10) || (o == 13)) && not ((l == 239) && (o == 191))

-- each of these octets, of which the first follows l, is in no forbidden character
abbrev pub are_usual : ℕ → List ℕ → Bool
are_usual l [] = true
are_usual l (o ∷ x) = is_usual l o && are_usual o x
