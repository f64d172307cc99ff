-- The parts of both texts. Every line ends with one line feed; hexadecimal digits are in lower case.
use Rattle.std.specs.Prelude.{ℕ, List, [], ◌∷◌, ◌++◌, length, codes, decimal}
use Rattle.hex.specs.Hex.{encode_lower}

-- one space and bytes in hexadecimal, or nothing without a byte
abbrev pub shown_bytes : List ℕ → List ℕ
shown_bytes [] = []
shown_bytes (b ∷ bs) = codes " " ++ encode_lower (b ∷ bs)

-- the number of bytes, and the bytes
unfoldable pub sized_bytes : List ℕ → List ℕ
sized_bytes x = codes " " ++ decimal (length x) ++ codes ":" ++ shown_bytes x ++ codes "\n"
