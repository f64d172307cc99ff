-- The meanings that can be written, and the entries that a directory needs for one. TIFF 6.0 section 2, "IFD Entry" and
-- "Types"; section 8, "StripOffsets" and "StripByteCounts"; CIPA DC-008 4.6.3 and 4.5.5.
-- Example: a main directory with Orientation 1 can be written. An empty GPS directory can't, because a table has an entry.
use Rattle.std.specs.Prelude.{◌≡◌, ℕ, ◌*◌, ◌^◌, ◌<◌, ◌≤◌, nat_lt, if◌then◌else◌, Option, Some, None, option_map, option_and_then, List, []}
use Rattle.std.specs.Prelude.{◌∷◌, length, map, IfSome}
use Rattle.std.specs.List.{AllByRecursion}
use Rattle.px_bytes.specs.declared.Order.TheVariants.{Least}
use Rattle.px_bytes.specs.Numbers.{AreBytes}
use Rattle.px_bytes.specs.Parts.{limit}
use Rattle.px_field.specs.declared.Form.{Form}
use Rattle.px_field.specs.declared.Form.TheVariants.{Undefined, Short, Long}
use Rattle.px_field.specs.declared.Kind.TheVariants.{Of, Whole}
use Rattle.px_field.specs.Forms.{size}
use Rattle.px_field.specs.Values.{Value, IsValue, form_in, encoded}
use Rattle.px_meaning.specs.Iim.{Iim, IsRecord, normal_iim}
use Rattle.px_meaning.specs.declared.roles.Dir.{Dir}
use Rattle.px_meaning.specs.declared.roles.Dir.TheVariants.{Main, Exif, Interop, Gps, Thumb}
use Rattle.px_meaning.specs.declared.roles.Role.{Role}
use Rattle.px_meaning.specs.declared.roles.Role.TheVariants.{Plain, Widened, Record}
use Rattle.px_meaning.specs.Roles.{exif_tag, gps_tag, interop_tag, record_tag, jpeg_offset_tag, jpeg_length_tag, strip_offsets_tag}
use Rattle.px_meaning.specs.Roles.{strip_lengths_tag, role}
use Rattle.px_meaning.specs.Tree.{Fields, ExifPart, Thumbnail, Meaning}
use Rattle.px_meaning.specs.Entry.{Rising, record_in}
use Rattle.px_meaning.specs.Directory.{dirs}

-- ---- the entries that a directory needs

-- a field, the record, a pointer, the JPEG's offset and its length, the strips' offsets (their number) and their lengths
pub data Item : Type 0 where
  Field : Value → Item
  Iptc : Iim → Item
  Link : Dir → Item
  AtJpeg : Item
  JpegSize : ℕ → Item
  AtStrips : ℕ → Item
  StripSizes : List ℕ → Item

-- the type of an entry: the other five are LONG
abbrev pub item_form : Item → Form
item_form (Field v) = form_in v.kind
item_form (Iptc i) = Undefined
item_form _ = Long

-- the count of an entry: the other three are one number
abbrev pub item_count : Item → ℕ
item_count (Field v) = length v.elements
item_count (Iptc i) = length (normal_iim i)
item_count (AtStrips n) = n
item_count (StripSizes ns) = length ns
item_count _ = 1

-- the bytes of its value
unfoldable pub item_size : Item → ℕ
item_size i = item_count i * size (item_form i)

-- inserts a tag and its item by ascending tag
abbrev pub put : {X : Type 0} → ℕ → X → List (ℕ × X) → List (ℕ × X)
put t x [] = (t, x) ∷ []
put t x (y ∷ ys) = if nat_lt t y.0 then (t, x) ∷ y ∷ ys else y ∷ put t x ys

-- inserts a tag and its item, if there is an item
abbrev pub put_some : {X : Type 0} → ℕ → Option X → List (ℕ × X) → List (ℕ × X)
put_some t None xs = xs
put_some t (Some x) xs = put t x xs

-- a pointer, if the meaning has its directory
abbrev pub link : {X : Type 0} → Dir → Option X → Option Item
link d o = option_map (λ _. Link d) o

-- each field as an entry
abbrev pub field_items : Fields → List (ℕ × Item)
field_items fs = map (λ p. (p.0, Field p.1)) fs

-- the entries of the main directory: its fields, the record, and the pointers to the GPS and the
-- Exif directory
abbrev pub main_items : Meaning → List (ℕ × Item)
main_items m =
    put_some exif_tag (link Exif m.exif) (put_some gps_tag (link Gps m.gps) (put_some record_tag (option_map Iptc m.iptc)
    (field_items m.main)))

-- the entries of the Exif directory: its fields, and the pointer to the Interoperability directory
abbrev pub exif_items : ExifPart → List (ℕ × Item)
exif_items e = put_some interop_tag (link Interop e.interop) (field_items e.fields)

-- the entries of the thumbnail directory: its fields, and two for the JPEG and two for the strips,
-- if it has them
abbrev pub thumb_items : Thumbnail → List (ℕ × Item)
thumb_items t =
    put_some jpeg_offset_tag (option_map (λ _. AtJpeg) t.jpeg) (put_some jpeg_length_tag (option_map (λ x. JpegSize (length x)) t.jpeg)
    (put_some strip_offsets_tag (option_map (λ s. AtStrips (length s)) t.strips)
    (put_some strip_lengths_tag (option_map (λ s. StripSizes (map (λ x. length x) s)) t.strips)
    (field_items t.fields))))

-- the entries of a directory by ascending tag, if the meaning has it
unfoldable pub items : Meaning → Dir → Option (List (ℕ × Item))
items m Main = Some (main_items m)
items m Exif = option_map exif_items m.exif
items m Interop = option_and_then (λ e. option_map field_items e.interop) m.exif
items m Gps = option_map field_items m.gps
items m Thumb = option_map thumb_items m.thumb

-- ---- the meanings that can be written

-- the values that a role allows as a field; the other roles allow none
abbrev pub Allows : Role → Value → Type 0
Allows Plain v = v.kind ≡ Whole → ⊥
Allows Widened v = ((v.kind ≡ Of Short) → ⊥) × ((v.kind ≡ Of Long) → ⊥)
Allows Record v = ((v.kind ≡ Whole) → ⊥) × (record_in (form_in v.kind) (encoded Least v) ≡ None)
Allows _ v = ⊥

-- a field, given by tag and value, that the directory d may have
pub record IsWritableField (d : Dir) (p : ℕ × Value) : Type 0 where
  pub tag : p.0 < 2 ^ 16
  pub allowed : Allows (role d p.0) p.1
  pub value : IsValue p.1

-- fields that the directory d may have, by strictly ascending tag
pub record AreWritableFields (d : Dir) (fs : Fields) : Type 0 where
  pub rising : Rising (map (λ p. p.0) fs)
  pub each : AllByRecursion (IsWritableField d) fs

-- bytes, at most `limit`
pub record IsBytes (x : List ℕ) : Type 0 where
  pub most : length x ≤ limit
  pub each : AreBytes x

-- the Exif directory and the Interoperability directory may have their fields
pub record IsWritableExif (e : ExifPart) : Type 0 where
  pub fields : AreWritableFields Exif e.fields
  pub interop : IfSome e.interop (AreWritableFields Interop)

-- the thumbnail directory may have its fields, and neither the JPEG, nor a strip, nor the number of
-- strips passes the limit
pub record IsWritableThumb (t : Thumbnail) : Type 0 where
  pub fields : AreWritableFields Thumb t.fields
  pub jpeg : IfSome t.jpeg IsBytes
  pub strips : IfSome t.strips (λ s. (length s ≤ limit) × AllByRecursion IsBytes s)

-- A meaning can be written if each directory's fields can, a record is valid and has no field at its tag, and each directory has an
-- entry. Whether its normal form is short enough, the call that writes it says.
pub record IsWritable (m : Meaning) : Type 0 where
  pub main : AreWritableFields Main m.main
  pub iptc : IfSome m.iptc (λ i. IsRecord i × (length (normal_iim i) ≤ 2 * limit))
  pub no_second : IfSome m.iptc (λ i. AllByRecursion (λ p. (p.0 ≡ record_tag) → ⊥) m.main)
  pub exif : IfSome m.exif IsWritableExif
  pub gps : IfSome m.gps (AreWritableFields Gps)
  pub thumb : IfSome m.thumb IsWritableThumb
  pub filled : AllByRecursion (λ d. IfSome (items m d) (λ xs. 1 ≤ length xs)) dirs
