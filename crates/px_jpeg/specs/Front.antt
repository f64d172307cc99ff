-- The first parts of a picture. If its head has a fault, these are the parts whose blocks end before it.
use Rattle.std.specs.Prelude.{◌≡◌, ◌⊎◌, ◌<◌, ℕ, false, true, Option, Some, None, List, [], ◌∷◌, ◌++◌, drop}
use Rattle.std.specs.List.{AllByRecursion}
use Rattle.px_jpeg.specs.declared.parts.Part.{Part}
use Rattle.px_jpeg.specs.declared.pieces.SegmentKind.{SegmentKind}
use Rattle.px_jpeg.specs.declared.pieces.SegmentKind.TheVariants.{Exif}
use Rattle.px_jpeg.specs.declared.pieces.Piece.{Piece}
use Rattle.px_jpeg.specs.declared.faults.HeadCause.{HeadCause}
use Rattle.px_jpeg.specs.Head.{IsPart, Encodes, HasHead}
use Rattle.px_jpeg.specs.Fault.{HasHeadFault, FaultAfter}
use Rattle.px_jpeg.specs.Pieces.{range, segment_kind, pieces}

-- the picture b begins with these parts: after SOI, FF D8, they come one after another
pub record BeginsWith (b : List ℕ) (parts : List Part) : Type 0 where
  pub encoded : List ℕ
  pub rest : List ℕ
  pub whole : b ≡ 255 ∷ 216 ∷ (encoded ++ rest)
  pub encodes : Encodes 2 parts encoded

-- or there are none
abbrev pub HasFront : List ℕ → List Part → Type 0
HasFront b parts = (parts ≡ []) ⊎ BeginsWith b parts

-- ---- a block of Exif that may go on

-- what the last of some parts contains
abbrev pub last_kind : List ℕ → Option SegmentKind → List Part → Option SegmentKind
last_kind b last [] = last
last_kind b last (q ∷ qs) = last_kind b (segment_kind q.code (range b q.start q.size)) qs

-- with some more bytes, x is a part (T.81, B.1.1.4) that continues the Exif of the part before it (CIPA DC-008, 4.7.2)
pub record MayContinue (x : List ℕ) : Type 0 where
  pub more : List ℕ
  pub octets : AllByRecursion (λ o. o < 256) more
  pub part : Part
  pub piece : Piece
  pub whole : IsPart 0 part (x ++ more)
  pub contains : pieces (x ++ more) (Some Exif) (part ∷ []) ≡ piece ∷ []
  pub continues : piece.begins ≡ false

-- the last of these parts is Exif, and the bytes x, which follow, may continue it
abbrev pub AreOpen : List ℕ → List Part → List ℕ → Type 0
AreOpen b parts x = (last_kind b None parts ≡ Some Exif) × MayContinue x

-- these parts have the blocks of the parts `all` except the last: of its pieces the first begins a block, and the others continue it
pub record WithoutLast (b : List ℕ) (all parts : List Part) : Type 0 where
  pub first : Piece
  pub others : List Piece
  pub whole : pieces b None all ≡ pieces b None parts ++ first ∷ others
  pub begins : first.begins ≡ true
  pub continue : AllByRecursion (λ (p : Piece). p.begins ≡ false) others

-- ---- the parts whose blocks end

-- the bytes x follow the parts `all`: those whose blocks end there are all, or all but those of a block of Exif that may go on
abbrev pub AreEnded : List ℕ → List Part → List ℕ → List Part → Type 0
AreEnded b all x parts = ((AreOpen b all x → ⊥) × (parts ≡ all)) ⊎ (AreOpen b all x × WithoutLast b all parts)

-- the head has its first fault at offset p, and these are the parts whose blocks end before it
abbrev pub EndedBefore : List ℕ → List Part → HeadCause → ℕ → Type 0
EndedBefore b parts cause p = (all : List Part) × FaultAfter b all cause p × AreEnded b all (drop p b) parts

-- the parts of the head or, if it has a fault, those whose blocks end before it
pub record IsEnded (b : List ℕ) (parts : List Part) : Type 0 where
  pub head : (whole : List Part) → HasHead b whole → parts ≡ whole
  pub fault : (cause : HeadCause) (p : ℕ) → HasHeadFault b cause p → EndedBefore b parts cause p
