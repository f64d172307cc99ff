-- Comments: how they are read, and the grammar. XML 1.0, 2.5.
use Rattle.std.specs.Prelude.{◌≡◌, ℕ, nat_eq, if◌then◌else◌, codes}
use Rattle.std.specs.Prelude.{Option, Some, None, option_and_then, List, ◌++◌, drop, take}
use Rattle.std.specs.List.{starts_with}
use Rattle.px_xmp_marks.specs.Sections.{find, HasNo}

-- the first n octets of y, if the end of a comment follows them
abbrev pub to_hyphens : List ℕ → ℕ → Option (List ℕ)
to_hyphens y n = if starts_with nat_eq (drop n y) (codes "-->") then Some (take n y) else None

-- the content of the comment at the start
unfoldable pub comment : List ℕ → Option (List ℕ)
comment x =
    if starts_with nat_eq x (codes "<!--") then option_and_then (to_hyphens (drop 4 x)) (find (codes "--") 0 (drop 4 x))
    else None

-- a comment (production 15): no two hyphens follow one another in its content, and the content does not end with one
abbrev pub IsComment : List ℕ → List ℕ → Type 0
IsComment x content = HasNo (codes "--") (content ++ codes "-") × (x ≡ codes "<!--" ++ (content ++ codes "-->"))

-- Each comment is read, whatever follows it.
abbrev pub CommentsAreRead : Type 0
CommentsAreRead = (x rest content : List ℕ) → IsComment x content → comment (x ++ rest) ≡ Some content

-- What is read as a comment is one.
abbrev pub OnlyCommentsAreRead : Type 0
OnlyCommentsAreRead = (x content : List ℕ) → comment x ≡ Some content → (y rest : List ℕ) × (x ≡ y ++ rest) × IsComment y content
