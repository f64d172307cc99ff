-- Whether two pictures have the same Exif and IPTC.
-- Example: if two pictures have one block of Exif each, and these differ only in the byte order, they are the same. If one of them
-- has a block of IPTC too, they are different.
use Rattle.std.specs.Prelude.{◌≡◌, ◌↔◌, ◌⊎◌, ℕ, Bool, true, false, IsTrue, Some, None, List, [], ◌∷◌, ⊤}
use Rattle.px_iim.specs.Group.{Record}
use Rattle.px_meaning.specs.Tree.{Meaning}
use Rattle.px_pictures.specs.declared.faults.Comparison.{Comparison}
use Rattle.px_pictures.specs.declared.faults.Comparison.TheVariants.{Same, Different, NotRead}
use Rattle.px_pictures.specs.declared.faults.PictureSide.TheVariants.{First, Second}
use Rattle.px_pictures.specs.Metadata.{HasMetadata}
use Rattle.px_pictures.specs.Unread.{IsUnread}

-- both have blocks with meanings; and they are the same exactly if these are equal: as many Exif blocks and as many IPTC blocks, which
-- mean the same, pair by pair, in order
abbrev pub IsSameMetadata : List ℕ → List ℕ → Bool → Type 0
IsSameMetadata f g same = (exif : List Meaning) × (iptc : List Record) × (others : List Meaning) × (records : List Record)
    × HasMetadata f exif iptc × HasMetadata g others records × (IsTrue same ↔ ((exif ≡ others) × (iptc ≡ records)))

-- each element is equal to that of the other list at its place, as far as both lists have one there
abbrev pub PairsAgree : {M : Type 0} → List M → List M → Type 0
PairsAgree [] ns = ⊤
PairsAgree (m ∷ ms) [] = ⊤
PairsAgree (m ∷ ms) (n ∷ ns) = (m ≡ n) × PairsAgree ms ns

-- both have blocks with meanings; and they are alike exactly if so are these: the blocks that both have mean the same, pair by pair, in
-- order, and one picture may have more of a kind
abbrev pub IsAlike : List ℕ → List ℕ → Bool → Type 0
IsAlike f g alike = (exif : List Meaning) × (iptc : List Record) × (others : List Meaning) × (records : List Record)
    × HasMetadata f exif iptc × HasMetadata g others records × (IsTrue alike ↔ (PairsAgree exif others × PairsAgree iptc records))

-- The three answers. They are different: a block that both have is; or one has more, and there is no place in them that isn't read. They
-- are the same, and there is no such place. Or all blocks that both have are the same, and this is the first such place, which may have
-- what is different: of the first picture, or else of the second.
abbrev pub IsComparison : List ℕ → List ℕ → Comparison → Type 0
IsComparison f g Different = IsAlike f g false ⊎ (IsSameMetadata f g false × IsUnread f None × IsUnread g None)
IsComparison f g Same = IsSameMetadata f g true × IsUnread f None × IsUnread g None
IsComparison f g (NotRead First u) = IsAlike f g true × IsUnread f (Some u)
IsComparison f g (NotRead Second u) = IsAlike f g true × IsUnread f None × IsUnread g (Some u)
