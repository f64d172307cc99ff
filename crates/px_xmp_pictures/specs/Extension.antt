-- The extended XMP of a picture, which is cut over several segments. XMP part 3, 1.1.3.1.
use Rattle.std.specs.Prelude.{◌≡◌, ◌<◌, ◌≤◌, ◌+◌, ◌/◌, ◌%◌, ℕ, nat_lt, Bool, true, false, if◌then◌else◌, ⊤}
use Rattle.std.specs.Prelude.{List, [], ◌∷◌, length, take, drop, map, filter}
use Rattle.std.specs.List.{AllByRecursion, flat_map}
use Rattle.std.specs.List.Sorted.{IsPermutation}
use Rattle.md5.specs.Md5.{md5}
use Rattle.px_jpeg.specs.declared.pieces.Piece.{Piece}
use Rattle.px_jpeg.specs.declared.pieces.SegmentKind.{SegmentKind}
use Rattle.px_jpeg.specs.declared.pieces.SegmentKind.TheVariants.{ExtendedXmp}
use Rattle.px_jpeg.specs.Extended.{head_len}
use Rattle.px_jpeg.specs.Pieces.{range}
use Rattle.px_jpeg.specs.ResourceReading.{number4}
use Rattle.px_jpeg.specs.Xmp.{is_packet}
use Rattle.px_xmp_pictures.specs.declared.portions.Portion.{Portion}

-- ---- the pieces of a picture

-- a piece of this kind is one of extended XMP
abbrev pub is_of_extension : SegmentKind → Bool
is_of_extension ExtendedXmp = true
is_of_extension other = false

-- the packets, in order
abbrev pub packets : List Piece → List Piece
packets ps = filter (λ (p : Piece). is_packet p.kind) ps

-- the pieces of extended XMP, in order
abbrev pub extension_pieces : List Piece → List Piece
extension_pieces ps = filter (λ (p : Piece). is_of_extension p.kind) ps

-- ---- one piece

-- a name is 32 octets
abbrev pub name_len : ℕ
name_len = 32

-- after the name a piece has the length of the whole extension, and its offset there
abbrev pub portion_of : List ℕ → Piece → Portion
portion_of b p = record {
  offset = number4 (drop 36 (range b p.start p.size));
  total = number4 (drop 32 (range b p.start p.size));
  start = p.start;
  size = p.size;
}

-- the text follows the offset
abbrev pub text_of : List ℕ → Portion → List ℕ
text_of b q = drop head_len (range b q.start q.size)

-- a piece of the picture b is whole up to its text, and begins with the name
abbrev pub HasName : List ℕ → List ℕ → Piece → Type 0
HasName b name p = (head_len ≤ length (range b p.start p.size)) × (take name_len (range b p.start p.size) ≡ name)

-- ---- all pieces

-- each portion says how long the extension is, begins where those before it end, and has an octet
abbrev pub Follow : List ℕ → ℕ → ℕ → List Portion → Type 0
Follow b total at [] = ⊤
Follow b total at (q ∷ qs) =
    (q.total ≡ total) × (q.offset ≡ at) × (0 < length (text_of b q)) × Follow b total (at + length (text_of b q)) qs

-- a hexadecimal digit, in capitals
abbrev pub capital : ℕ → ℕ
capital d = if nat_lt d 10 then 48 + d else 55 + d

-- octets in hexadecimal capitals
abbrev pub capitals : List ℕ → List ℕ
capitals [] = []
capitals (o ∷ x) = capital (o / 16) ∷ capital (o % 16) ∷ capitals x

-- All pieces of the picture b have this name, which is the MD5 of the extension x. In order of their offsets they are all of x, and no two
-- have an octet of it in common.
pub record IsExtension (b : List ℕ) (pieces : List Piece) (name x : List ℕ) : Type 0 where
  pub ordered : List Portion
  pub named : AllByRecursion (HasName b name) pieces
  pub all : IsPermutation (map (portion_of b) pieces) ordered
  pub follow : Follow b (length x) 0 ordered
  pub joined : x ≡ flat_map (text_of b) ordered
  pub digest : name ≡ capitals (md5 x)
