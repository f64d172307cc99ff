-- What the comparison of two JPEG pictures returns.
use Rattle.std.specs.Prelude.{◌≡◌, ◌≤◌, ◌==◌, ℕ, if◌then◌else◌, List, Some}
use Rattle.px_bytes.specs.Causes.{cause_of}
use Rattle.px_pictures.specs.declared.faults.MetadataKind.{MetadataKind}
use Rattle.px_pictures.specs.declared.faults.MetadataKind.TheVariants as kind
use Rattle.px_pictures.specs.declared.faults.MetadataFault.{MetadataFault}
use Rattle.px_pictures.specs.declared.faults.MetadataFault.TheVariants.{Head, TooLong, Block, OutOfMemory}
use Rattle.px_pictures.specs.declared.faults.PictureSide.{PictureSide}
use Rattle.px_pictures.specs.declared.unread.Unread.{Unread}
use Rattle.px_pictures.specs.Faults.{IsFaultOf}
use Rattle.px_pictures.specs.Same.{IsComparison}
use Rattle.px_xmp_pictures.specs.Same.{IsComparisonOfAll}
use Rattle.px_pictures.specs.declared.faults.Comparison.{Comparison}
use Rattle.px_pictures.specs.declared.faults.Comparison.TheVariants.{Same, Different, NotRead}
use Rattle.px_c.specs.declared.pictures.Compared.{Compared}
use Rattle.px_c.specs.declared.pictures.Compared.TheVariants.{Blocks, All}
use Rattle.px_c.specs.declared.pictures.ExifnormPictureFault.{ExifnormPictureFault}
use Rattle.px_c.specs.declared.unread.ExifnormUnreadPart.{ExifnormUnreadPart}
use Rattle.px_c.specs.Jpeg.{head_cause}
use Rattle.px_c.specs.Unread.{seen_unread}

-- the numbers of the kinds of block
abbrev pub block_kind : MetadataKind → ℕ
block_kind kind.Exif = 1
block_kind kind.Iptc = 2

-- a fault in C: of a head only cause and offset, of too many bytes only the cause
abbrev pub IsSeenFault : MetadataFault → ExifnormPictureFault → Type 0
IsSeenFault (Head e) seen = (seen.cause ≡ head_cause e.cause) × (seen.kind ≡ 0) × (seen.number ≡ 0) × (seen.place ≡ e.place)
IsSeenFault TooLong seen = (seen.cause ≡ 105) × (seen.kind ≡ 0) × (seen.number ≡ 0) × (seen.place ≡ 0)
IsSeenFault (Block k n cause place) seen =
    (cause_of seen.cause ≡ Some cause) × (seen.kind ≡ block_kind k) × (seen.number ≡ n) × (seen.place ≡ place)
IsSeenFault OutOfMemory seen = ⊥

-- the first fault of two pictures, which is in the picture of this side
abbrev pub RefusesPicture : PictureSide → List ℕ → List ℕ → ExifnormPictureFault → Type 0
RefusesPicture side f g seen = (e : MetadataFault) × (refused : ℕ) × IsSeenFault e seen × IsFaultOf side f g refused e

-- the comparison with this number: 1 if the pictures are the same, otherwise 0
abbrev pub comparison_of : ℕ → Comparison
comparison_of n = if n == 1 then Same else Different

-- the answer of a comparison: of Exif and IPTC, or of XMP too
abbrev pub IsAnswer : Compared → List ℕ → List ℕ → Comparison → Type 0
IsAnswer Blocks f g c = IsComparison f g c
IsAnswer All f g c = IsComparisonOfAll f g c

-- the blocks of both pictures have meanings: 1 if what is compared is the same and there is no place in the pictures that isn't read; 0 if
-- it is different
abbrev pub ArePicturesCompared : Compared → List ℕ → List ℕ → ℕ → Type 0
ArePicturesCompared x f g n = (n ≤ 1) × IsAnswer x f g (comparison_of n)

-- what is read is the same, and the picture of this side has this place that isn't read; if that is the second, the first has none
abbrev pub LeavesUnread : Compared → PictureSide → List ℕ → List ℕ → ExifnormUnreadPart → Type 0
LeavesUnread x side f g seen = (u : Unread) × IsAnswer x f g (NotRead side u) × (seen ≡ seen_unread (Some u))
