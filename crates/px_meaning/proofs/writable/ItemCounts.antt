-- How many entries a directory needs.
use Rattle.std.proofs.Common.{◌≡◌, ◌+◌, ◌*◌, ℕ, suc, Bool, true, false, if◌then◌else◌, List, [], ◌∷◌, length, map, nat_lt, Option, Some}
use Rattle.std.proofs.Common.{None, option_map, refl, ap, arith, is_some}
use Rattle.px_meaning.specs.declared.meanings.Meaning as declared_meaning
use Rattle.px_meaning.specs.declared.meanings.ExifPart as declared_exif
use Rattle.px_meaning.specs.declared.meanings.Thumb as declared_thumb
use Rattle.px_meaning.specs.calls.Seen.{exif_of, thumb_of, meaning_of}
use Rattle.px_meaning.specs.Tree.{Fields, ExifPart, Thumbnail, Meaning}
use Rattle.px_meaning.specs.declared.roles.Dir.TheVariants.{Exif, Interop, Gps}
use Rattle.px_meaning.specs.Roles.{exif_tag, gps_tag, interop_tag, record_tag, jpeg_offset_tag, jpeg_length_tag, strip_offsets_tag}
use Rattle.px_meaning.specs.Roles.{strip_lengths_tag}
use Rattle.px_meaning.specs.Writable.{Iptc, Link, AtJpeg, JpegSize, AtStrips, StripSizes, put, put_some, link, field_items, main_items}
use Rattle.px_meaning.specs.Writable.{exif_items}
use Rattle.px_meaning.specs.Writable.{thumb_items}

pub length_put : {X : Type 0} (t : ℕ) (x : X) (xs : List (ℕ × X)) → length (put t x xs) ≡ suc (length xs)
length_put t x [] = refl
length_put {X = X} t x (y ∷ ys) =
    elim (nat_lt t y.0) as (λ b. length {A = ℕ × X} (if b then (t, x) ∷ y ∷ ys else y ∷ put t x ys) ≡ suc (suc (length ys))) [
      | true ↦ refl
      | false ↦ ap suc (length_put t x ys)
    ]

abbrev pub bit : Bool → ℕ
bit true = 1
bit false = 0

-- one if it is present
abbrev pub one_of : {X : Type 0} → Option X → ℕ
one_of o = bit (is_some o)

pub one_of_map : {X Y : Type 0} (f : X → Y) (o : Option X) → one_of (option_map f o) ≡ one_of o
one_of_map f None = refl
one_of_map f (Some x) = refl

pub length_put_some : {X : Type 0} (t : ℕ) (o : Option X) (xs : List (ℕ × X)) → length (put_some t o xs) ≡ one_of o + length xs
length_put_some t None xs = omega arith
length_put_some t (Some x) xs = omega (arith, length_put t x xs)

length_pairs : (fs : Fields) → length (field_items fs) ≡ length fs
length_pairs [] = refl
length_pairs (f ∷ fs) = ap suc (length_pairs fs)

-- the entries of each directory
pub length_main_items : (m : Meaning) → length (main_items m) ≡ one_of m.exif + one_of m.gps + one_of m.iptc + length m.main
length_main_items m =
    let r = field_items m.main in
    let r1 = put_some record_tag (option_map Iptc m.iptc) r in
    let r2 = put_some gps_tag (link Gps m.gps) r1 in
    omega (
      arith,
      length_pairs m.main,
      length_put_some record_tag (option_map Iptc m.iptc) r,
      one_of_map Iptc m.iptc,
      length_put_some gps_tag (link Gps m.gps) r1,
      one_of_map (λ _. Link Gps) m.gps,
      length_put_some exif_tag (link Exif m.exif) r2,
      one_of_map (λ _. Link Exif) m.exif,
    )

pub length_exif_items : (e : ExifPart) → length (exif_items e) ≡ one_of e.interop + length e.fields
length_exif_items e =
    let r = field_items e.fields in
    omega (arith, length_pairs e.fields, length_put_some interop_tag (link Interop e.interop) r, one_of_map (λ _. Link Interop) e.interop)

pub length_thumb_items : (t : Thumbnail) → length (thumb_items t) ≡ 2 * one_of t.jpeg + 2 * one_of t.strips + length t.fields
length_thumb_items t =
    let r = field_items t.fields in
    let sizes = option_map (λ s. StripSizes (map (λ x. length x) s)) t.strips in
    let starts = option_map (λ s. AtStrips (length s)) t.strips in
    let r1 = put_some strip_lengths_tag sizes r in
    let r2 = put_some strip_offsets_tag starts r1 in
    let r3 = put_some jpeg_length_tag (option_map (λ x. JpegSize (length x)) t.jpeg) r2 in
    omega (
      arith,
      length_pairs t.fields,
      length_put_some strip_lengths_tag sizes r,
      one_of_map (λ s. StripSizes (map (λ x. length x) s)) t.strips,
      length_put_some strip_offsets_tag starts r1,
      one_of_map (λ s. AtStrips (length s)) t.strips,
      length_put_some jpeg_length_tag (option_map (λ x. JpegSize (length x)) t.jpeg) r2,
      one_of_map (λ x. JpegSize (length x)) t.jpeg,
      length_put_some jpeg_offset_tag (option_map (λ _. AtJpeg) t.jpeg) r3,
      one_of_map (λ _. AtJpeg) t.jpeg,
    )

-- the same of the program's values
pub main_count : (m : declared_meaning.Meaning) → length (main_items (meaning_of m)) ≡ bit (is_some m.exif) + bit (is_some m.gps) + bit
    (is_some m.iptc) + length m.main
main_count m = omega (arith, length_main_items (meaning_of m), one_of_map exif_of m.exif)

pub exif_count : (e : declared_exif.ExifPart) → length (exif_items (exif_of e)) ≡ bit (is_some e.interop) + length e.fields
exif_count e = length_exif_items (exif_of e)

pub thumb_count : (t : declared_thumb.Thumb) → length (thumb_items (thumb_of t)) ≡ 2 * bit (is_some t.jpeg) + 2 * bit
    (is_some t.strips) + length t.fields
thumb_count t = omega (arith, length_thumb_items (thumb_of t), one_of_map (λ x. x.now) t.jpeg)
