-- The XMP of two pictures.
use Rattle.std.specs.Prelude.{◌≡◌, ◌⊎◌, ℕ, false, Option, Some, None, List}
use Rattle.px_jpeg.specs.declared.packets.FoundXmp.TheVariants as found
use Rattle.px_jpeg.specs.Head.{HasHead, Picture}
use Rattle.px_jpeg.specs.Pieces.{range}
use Rattle.px_jpeg.specs.Xmp.{xmp_of}
use Rattle.px_pictures.specs.declared.faults.Comparison.{Comparison}
use Rattle.px_pictures.specs.declared.faults.Comparison.TheVariants as answer
use Rattle.px_pictures.specs.declared.faults.PictureSide.{PictureSide}
use Rattle.px_pictures.specs.declared.faults.PictureSide.TheVariants.{First, Second}
use Rattle.px_pictures.specs.declared.unread.Unread.{Unread}
use Rattle.px_pictures.specs.Unread.{IsUnread}
use Rattle.px_pictures.specs.Xmp.{IsOtherXmp}
use Rattle.px_xmp.specs.Laws.{IsFormOfPacket}
use Rattle.px_xmp_forms.specs.Forms.{IsNormal}
use Rattle.px_xmp_pictures.specs.Joined.{NamesNone, IsLeftPacket, IsJoined, IsNotJoined}
use Rattle.px_xmp_pictures.specs.declared.reading.ReadXmp.{ReadXmp}
use Rattle.px_xmp_pictures.specs.declared.reading.ReadXmp.TheVariants.{Absent, Form, NotRead}

-- ---- one picture

-- a packet that is read begins at an offset: it is the picture's only XMP by its own marks, and this is the normal form of its document
abbrev pub IsOnlyPacket : Picture → List ℕ → ℕ → ℕ → Type 0
IsOnlyPacket p form start size =
    (xmp_of p.octets p.parts ≡ found.Packet start size) × IsFormOfPacket (range p.octets start size) form

-- at an offset is a second packet or extended XMP, of a picture that can't be joined; or the only packet, which has no meaning within the
-- limits or names extended XMP
abbrev pub IsLeft : Picture → ℕ → Type 0
IsLeft p start =
    ((xmp_of p.octets p.parts ≡ found.NotRead start) × IsNotJoined p)
    ⊎ ((size : ℕ) × (xmp_of p.octets p.parts ≡ found.Packet start size) × IsLeftPacket (range p.octets start size))

-- the picture has no XMP, unless it is in the first place that a comparison of blocks doesn't read, if there is one; or one packet, alone
-- or with extended XMP, and its normal form, which names no other; or, at this place, XMP that isn't read
abbrev pub IsXmp : Picture → ReadXmp → Type 0
IsXmp p (Absent u) = IsOtherXmp p.octets None × (xmp_of p.octets p.parts ≡ found.Absent) × IsUnread p.octets u
IsXmp p (Form form) =
    IsOtherXmp p.octets None × IsNormal form.items × NamesNone form.items
    × (((start size : ℕ) × IsOnlyPacket p form.items start size) ⊎ IsJoined p form.items)
IsXmp p (NotRead u) = IsOtherXmp p.octets (Some u) ⊎ (IsOtherXmp p.octets None × (u.joined ≡ false) × IsLeft p u.start)

-- what is known of the XMP of the picture b, which has a head
abbrev pub HasXmp : List ℕ → ReadXmp → Type 0
HasXmp b x = (p : Picture) × (p.octets ≡ b) × HasHead p.octets p.parts × IsXmp p x

-- ---- two pictures

-- two normal forms are equal or not
abbrev pub IsFormAnswer : List ℕ → List ℕ → Comparison → Type 0
IsFormAnswer x y answer.Same = x ≡ y
IsFormAnswer x y answer.Different = x ≡ y → ⊥
IsFormAnswer x y (answer.NotRead side u) = ⊥

-- the answer for XMP that the picture of this side has not, and the other has: it is different, unless something of the picture isn't read,
-- which may be XMP
abbrev pub absent_answer : PictureSide → Option Unread → Comparison
absent_answer side None = answer.Different
absent_answer side (Some u) = answer.NotRead side u

-- the answer for the XMP of two pictures: both have none, or equal forms; or one has none, or the forms differ; or XMP isn't read
abbrev pub IsXmpAnswer : ReadXmp → ReadXmp → Comparison → Type 0
IsXmpAnswer (NotRead u) y c = c ≡ answer.NotRead First u
IsXmpAnswer (Absent u) (NotRead v) c = c ≡ answer.NotRead Second v
IsXmpAnswer (Absent u) (Absent v) c = c ≡ answer.Same
IsXmpAnswer (Absent u) (Form form) c = c ≡ absent_answer First u
IsXmpAnswer (Form form) (NotRead v) c = c ≡ answer.NotRead Second v
IsXmpAnswer (Form form) (Absent v) c = c ≡ absent_answer Second v
IsXmpAnswer (Form form) (Form other) c = IsFormAnswer form.items other.items c

-- c is the answer for the XMP of the pictures f and g
abbrev pub IsXmpComparison : List ℕ → List ℕ → Comparison → Type 0
IsXmpComparison f g c = (x y : ReadXmp) × HasXmp f x × HasXmp g y × IsXmpAnswer x y c
