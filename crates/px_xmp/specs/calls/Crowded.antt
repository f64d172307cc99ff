-- Tags with more attributes than this reader judges: how they are found.
use Rattle.std.specs.Prelude.{◌≡◌, ◌≤◌, ◌<◌, ◌+◌, ◌-◌, ◌==◌, ℕ, suc, if◌then◌else◌, Bool, true, false}
use Rattle.std.specs.Prelude.{Option, Some, None, List, [], ◌∷◌, length, take, drop}
use Rattle.std.specs.List.{list_any}
use Rattle.px_xmp_marks.specs.Reading.{Attr}
use Rattle.px_xmp_marks.specs.declared.tags.StartTag.{StartTag}
use Rattle.px_xmp_document.specs.Tags.{attribute_limit}
use Rattle.px_xmp.specs.calls.Listed.{AreListed}

-- there are more attributes, or not
abbrev pub AreMany : Bool → List Attr → Type 0
AreMany true attributes = attribute_limit < length attributes
AreMany false attributes = length attributes ≤ attribute_limit

-- a mark is a tag with more of them, or not
abbrev pub HasMany : Option StartTag → Bool → Type 0
HasMany None many = many ≡ false
HasMany (Some t) many = (attributes : List Attr) → AreListed t.rest.now attributes → AreMany many attributes

-- ---- where such tags can be

-- octets have an octet c
abbrev pub has : ℕ → List ℕ → Bool
has c x = list_any (λ o. o == c) x

-- how many octets are `=`, 61: a tag has no more attributes than that
abbrev pub equals_signs : List ℕ → ℕ
equals_signs [] = 0
equals_signs (o ∷ x) = if o == 61 then suc (equals_signs x) else equals_signs x

-- an equals sign at the offset n, with w octets from it on, and as many up to it or all that there are, and no `<` in these
pub record IsInRun (w : ℕ) (x : List ℕ) (n : ℕ) : Type 0 where
  pub sign : take 1 (drop n x) ≡ 61 ∷ []
  pub within : n + w ≤ length x
  pub before : has 60 (drop (n + 1 - w) (take n x)) ≡ false
  pub after : has 60 (take w (drop n x)) ≡ false
