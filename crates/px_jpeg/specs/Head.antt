-- The head of a JPEG picture: what stands before its first scan. ITU-T T.81, B.1.1 and B.2.
-- Example: FF D8 FF E1 00 04 61 62 FF D9 is a head of two parts: APP1 with the data 61 62, at offset 6, and EOI.
use Rattle.std.specs.Prelude.{◌≡◌, ◌≢◌, ◌⊎◌, ◌+◌, ◌*◌, ◌==◌, ℕ, Bool, true, false, ◌&&◌, ◌||◌, nat_le, List, [], ◌∷◌, ◌++◌, length}
use Rattle.std.specs.List.{AllByRecursion}
use Rattle.px_jpeg.specs.declared.parts.Part.{Part}

-- T.81, table B.1: the markers with no segment are TEM, 01, and RST, SOI and EOI, D0 to D9
abbrev pub stands_alone : ℕ → Bool
stands_alone code = (code == 1) || (nat_le 208 code && nat_le code 217)

-- SOS, DA, the header of a scan, or EOI, D9, the end of the picture
abbrev pub is_last : ℕ → Bool
is_last code = (code == 218) || (code == 217)

-- B.1.1.2: any number of bytes FF may stand before a marker
abbrev pub AreFill : List ℕ → Type 0
AreFill fill = AllByRecursion (λ o. o ≡ 255) fill

-- B.1.1.2: a marker is a byte FF and a byte that is neither 0 nor FF
abbrev pub IsMarker : ℕ → Type 0
IsMarker code = (code ≢ 0) × (code ≢ 255)

-- the bytes x at offset p are a marker that stands alone
pub record IsAlone (p : ℕ) (q : Part) (x : List ℕ) : Type 0 where
  pub fill : List ℕ
  pub filled : AreFill fill
  pub marker : IsMarker q.code
  pub alone : stands_alone q.code ≡ true
  pub whole : x ≡ fill ++ 255 ∷ q.code ∷ []
  pub start : q.start ≡ p + length fill + 2
  pub empty : q.size ≡ 0

-- B.1.1.4: the bytes x at offset p are a marker and its segment, which begins with its length, two bytes, most significant first,
-- that counts itself and the data
pub record IsSegment (p : ℕ) (q : Part) (x : List ℕ) : Type 0 where
  pub fill : List ℕ
  pub high : ℕ
  pub low : ℕ
  pub octets : List ℕ
  pub filled : AreFill fill
  pub marker : IsMarker q.code
  pub segment : stands_alone q.code ≡ false
  pub whole : x ≡ fill ++ 255 ∷ q.code ∷ high ∷ low ∷ octets
  pub counted : 256 * high + low ≡ 2 + length octets
  pub start : q.start ≡ p + length fill + 4
  pub size : q.size ≡ length octets

-- the bytes x at offset p are this part: a marker that stands alone, or a marker segment (B.1.1.3,
-- B.1.1.4)
abbrev pub IsPart : ℕ → Part → List ℕ → Type 0
IsPart p q x = IsAlone p q x ⊎ IsSegment p q x

-- the bytes x at offset p are these parts, one after another
abbrev pub Encodes : ℕ → List Part → List ℕ → Type 0
Encodes p [] x = x ≡ []
Encodes p (q ∷ qs) x = (a : List ℕ) × (b : List ℕ) × (x ≡ a ++ b) × IsPart p q a × Encodes (p + length a) qs b

-- none of them is the last of a head
abbrev pub NoneLast : List Part → Type 0
NoneLast qs = AllByRecursion (λ q. is_last q.code ≡ false) qs

-- the last of them, and no other, is the last of a head
abbrev pub EndsAtLast : List Part → Type 0
EndsAtLast [] = ⊥
EndsAtLast (q ∷ []) = is_last q.code ≡ true
EndsAtLast (q ∷ r ∷ qs) = (is_last q.code ≡ false) × EndsAtLast (r ∷ qs)

-- the picture b has these parts before its first scan: after SOI, FF D8, they are all parts up to the first that is SOS or EOI
pub record HasHead (b : List ℕ) (parts : List Part) : Type 0 where
  pub encoded : List ℕ
  pub rest : List ℕ
  pub whole : b ≡ 255 ∷ 216 ∷ (encoded ++ rest)
  pub encodes : Encodes 2 parts encoded
  pub ends : EndsAtLast parts

-- a picture with a head, and the parts of the head
pub record Picture : Type 0 where
  pub octets : List ℕ
  pub parts : List Part
