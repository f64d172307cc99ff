-- Lists of ranges that leave the same bytes free.
use Rattle.std.specs.Prelude.{◌≡◌, ℕ, List}
use Rattle.px_bytes.specs.Range.{Range, range, is_free}

-- lists that leave the same ranges free
abbrev pub SameFree : List Range → List Range → Type 0
SameFree xs ys = (s n : ℕ) → is_free xs (range s n) ≡ is_free ys (range s n)
