-- The entries of each directory of a meaning that fits are in order, suit their tags, and are few enough.
use Rattle.std.proofs.Common.{◌≡◌, ℕ, suc, ◌+◌, ◌*◌, ◌^◌, ◌<◌, ◌≤◌, inl, inr, nat_lt, Option, Some, None, option_map, option_and_then, List}
use Rattle.std.proofs.Common.{[], ◌∷◌, map, length, refl, sym, ◌∙◌, ap, subst, arith, ltb-true, ltb-false}
use Rattle.std.specs.Prelude.{IfSome}
use Rattle.std.specs.List.{AllByRecursion}
use Rattle.std.proofs.lemmas.Bool.{cond_both, cases_lt, cases_eq}
use Rattle.px_bytes.specs.Parts.{limit}
use Rattle.px_bytes.specs.lemmas.EachLaws.{each_map}
use Rattle.px_field.specs.Values.{Value, IsValue}
use Rattle.px_meaning.specs.Iim.{Iim, IsRecord, normal_iim}
use Rattle.px_meaning.specs.declared.Dir.{Dir}
use Rattle.px_meaning.specs.declared.Dir.TheVariants.{Main, Exif, Interop, Gps, Thumb}
use Rattle.px_meaning.specs.Tree.{Fields, ExifPart, Thumbnail, Meaning}
use Rattle.px_meaning.specs.declared.Role.{Role}
use Rattle.px_meaning.specs.declared.Role.TheVariants.{Plain, Widened, Forbidden, Record, JpegOffset, JpegLength, StripOffsets}
use Rattle.px_meaning.specs.declared.Role.TheVariants.{StripLengths}
use Rattle.px_meaning.specs.declared.Role.TheVariants.{To}
use Rattle.px_meaning.specs.Roles.{exif_tag, gps_tag, record_tag, interop_tag, jpeg_offset_tag, jpeg_length_tag, strip_offsets_tag}
use Rattle.px_meaning.specs.Roles.{strip_lengths_tag, free_offsets_tag, role}
use Rattle.px_meaning.specs.Entry.{Rising}
use Rattle.px_meaning.specs.Writable.{Item, Field, Iptc, Link, AtJpeg, JpegSize, AtStrips, StripSizes, put, put_some, link, field_items}
use Rattle.px_meaning.specs.Writable.{main_items, exif_items, thumb_items, items, Allows, IsWritableField, AreWritableFields, IsWritable}
use Rattle.px_meaning.specs.Writable.{IsWritableExif, IsWritableThumb}
use Rattle.px_layout.specs.lemmas.ItemLaws.{Suits}

-- a directory's entries, in order
pub record Good (d : Dir) (xs : List (ℕ × Item)) : Type 0 where
  pub rising : Rising (map (λ i. i.0) xs)
  pub tags : AllByRecursion (λ i. i.0 < 2 ^ 16) xs
  pub suit : AllByRecursion (λ i. Suits (role d i.0) i.1) xs

abbrev pub NotThere : ℕ → List (ℕ × Item) → Type 0
NotThere t xs = AllByRecursion (λ i. i.0 ≡ t → ⊥) xs

module _ (P : ℕ × Item → Type 0) where
  pub each_put : (t : ℕ) (x : Item) (ys : List (ℕ × Item)) → P (t, x) → AllByRecursion P ys → AllByRecursion P (put t x ys)
  each_put t x [] p h = (p, tt)
  each_put t x (y ∷ ys) p h =
      cond_both (nat_lt t y.0) ((t, x) ∷ y ∷ ys) (y ∷ put t x ys) (AllByRecursion P) (λ _. (p, h)) (λ _. (h.0, each_put t x ys p h.1))

above_put : (k t : ℕ) (x : Item) (ys : List (ℕ × Item)) → k < t → AllByRecursion (λ u. k < u) (map (λ i. i.0) ys)
    → AllByRecursion (λ u. k < u) (map (λ i. i.0) (put t x ys))
above_put k t x [] l h = (l, tt)
above_put k t x (y ∷ ys) l h =
    cond_both (nat_lt t y.0) ((t, x) ∷ y ∷ ys) (y ∷ put t x ys) (λ zs. AllByRecursion (λ u. k < u) (map (λ i. i.0) zs)) (λ _. (l, h))
    (λ _. (h.0, above_put k t x ys l h.1))

rising_put : (t : ℕ) (x : Item) (ys : List (ℕ × Item)) → NotThere t ys → Rising (map (λ i. i.0) ys) → Rising (map (λ i. i.0) (put t x ys))
rising_put t x [] n r = (tt, tt)
rising_put t x (y ∷ ys) n r = cond_both (nat_lt t y.0) ((t, x) ∷ y ∷ ys) (y ∷ put t x ys) (λ zs. Rising (map (λ i. i.0) zs))
    (λ e. let l : t < y.0 = ltb-true t y.0 e in ((l, each_map (λ u. y.0 < u) (λ u. t < u) (λ u h. omega arith) (map (λ i. i.0) ys) r.0), r))
    (λ e. let l : y.0 ≤ t = ltb-false t y.0 e in let ne = n.0 in
    let s : y.0 < t = elim (cases_eq y.0 t) [ inl q ↦ absurd (ne q) | inr q ↦ omega arith ] in
    (above_put y.0 t x ys s r.0, rising_put t x ys n.1 r.1))

pub good_put : (d : Dir) (t : ℕ) (x : Item) (ys : List (ℕ × Item)) → t < 2 ^ 16 → Suits (role d t) x → NotThere t ys → Good d ys
    → Good d (put t x ys)
good_put d t x ys l s n g = record {
  rising = rising_put t x ys n g.rising;
  tags = each_put (λ i. i.0 < 2 ^ 16) t x ys l g.tags;
  suit = each_put (λ i. Suits (role d i.0) i.1) t x ys s g.suit;
}

good_some : (d : Dir) (t : ℕ) (o : Option Item) (ys : List (ℕ × Item)) → t < 2 ^ 16 → IfSome o (Suits (role d t))
    → IfSome o (λ _. NotThere t ys) → Good d ys → Good d (put_some t o ys)
good_some d t None ys l s n g = g
good_some d t (Some x) ys l s n g = good_put d t x ys l s n g

pub not_put : (t u : ℕ) (o : Option Item) (ys : List (ℕ × Item)) → (u ≡ t → ⊥) → NotThere t ys → NotThere t (put_some u o ys)
not_put t u None ys ne n = n
not_put t u (Some x) ys ne n = each_put (λ i. i.0 ≡ t → ⊥) u x ys ne n

-- ---- fields

suits_field : (r : Role) (v : Value) → IsValue v → Allows r v → Suits r (Field v)
suits_field Plain v i a = (i, a)
suits_field Widened v i a = (i, a)
suits_field Record v i a = (i, a)
suits_field Forbidden v i a = absurd a
suits_field JpegOffset v i a = absurd a
suits_field JpegLength v i a = absurd a
suits_field StripOffsets v i a = absurd a
suits_field StripLengths v i a = absurd a
suits_field (To d) v i a = absurd a

tags_of : (fs : Fields) → map (λ (i : ℕ × Item). i.0) (field_items fs) ≡ map (λ p. p.0) fs
tags_of [] = refl
tags_of (p ∷ fs) = ap (λ ts. p.0 ∷ ts) (tags_of fs)

each_field : (Q : ℕ × Item → Type 0) (P : ℕ × Value → Type 0) → ((p : ℕ × Value) → P p → Q (p.0, Field p.1)) → (fs : Fields)
    → AllByRecursion P fs → AllByRecursion Q (field_items fs)
each_field Q P f [] h = tt
each_field Q P f (p ∷ fs) h = (f p h.0, each_field Q P f fs h.1)

pub good_fields : (d : Dir) (fs : Fields) → AreWritableFields d fs → Good d (field_items fs)
good_fields d fs f = record {
  rising = subst Rising (sym (tags_of fs)) f.rising;
  tags = each_field (λ i. i.0 < 2 ^ 16) (IsWritableField d) (λ p h. h.tag) fs f.each;
  suit = each_field (λ i. Suits (role d i.0) i.1) (IsWritableField d) (λ p h. suits_field (role d p.0) p.1 h.value h.allowed) fs f.each;
}

-- a tag that takes no field is at none
pub no_field : (d : Dir) (t : ℕ) (fs : Fields) → ((v : Value) → Allows (role d t) v → ⊥) → AllByRecursion (IsWritableField d) fs
    → NotThere t (field_items fs)
no_field d t fs n h = each_field (λ i. i.0 ≡ t → ⊥) (IsWritableField d) (λ p f e. n p.1 (subst (λ u. Allows (role d u) p.1) e f.allowed)) fs
    h

-- ---- each directory

if_link : {X : Type 0} (d e : Dir) (t : ℕ) (o : Option X) → role d t ≡ To e → IfSome (link e o) (Suits (role d t))
if_link d e t None h = tt
if_link d e t (Some x) h = subst (λ r. Suits r (Link e)) (sym h) refl

pub if_some : {X : Type 0} (P : Type 0) (o : Option X) → P → IfSome o (λ _. P)
if_some P None h = tt
if_some P (Some x) h = h

pub good_main : (m : Meaning) → IsWritable m → Good Main (main_items m)
unfolding role
good_main m f =
    good_some Main exif_tag (link Exif m.exif) (put_some gps_tag (link Gps m.gps)
    (put_some record_tag (option_map Iptc m.iptc) (field_items m.main))) (omega arith)
    (if_link Main Exif exif_tag m.exif refl)
    (if_some _ (link Exif m.exif) (not_put exif_tag gps_tag (link Gps m.gps) _ (omega arith)
    (not_put exif_tag record_tag (option_map Iptc m.iptc) _ (omega arith) (no_field Main exif_tag m.main (λ v a. a) f.main.each))))
    (good_some Main gps_tag (link Gps m.gps) (put_some record_tag (option_map Iptc m.iptc) (field_items m.main)) (omega arith)
    (if_link Main Gps gps_tag m.gps refl)
    (if_some _ (link Gps m.gps) (not_put gps_tag record_tag (option_map Iptc m.iptc) _ (omega arith)
    (no_field Main gps_tag m.main (λ v a. a) f.main.each)))
    (with_record m.iptc f.iptc f.no_second))
  where
    with_record : (i : Option Iim) → IfSome i (λ i. IsRecord i × (length (normal_iim i) ≤ 2 * limit))
        → IfSome i (λ i. AllByRecursion (λ p. (p.0 ≡ record_tag) → ⊥) m.main)
        → Good Main (put_some record_tag (option_map Iptc i) (field_items m.main))
    with_record None r n = good_fields Main m.main f.main
    with_record (Some i) r n = good_put Main record_tag (Iptc i) (field_items m.main) (omega arith) r.0
        (each_field (λ i. i.0 ≡ record_tag → ⊥) (λ p. (p.0 ≡ record_tag) → ⊥) (λ p h. h) m.main n) (good_fields Main m.main f.main)

pub good_exif : (e : ExifPart) → IsWritableExif e → Good Exif (exif_items e)
unfolding role
good_exif e f =
    good_some Exif interop_tag (link Interop e.interop) (field_items e.fields) (omega arith)
    (if_link Exif Interop interop_tag e.interop refl)
    (if_some _ (link Interop e.interop) (no_field Exif interop_tag e.fields (λ v a. a) f.fields.each)) (good_fields Exif e.fields f.fields)

pub good_thumb : (t : Thumbnail) → IsWritableThumb t → Good Thumb (thumb_items t)
unfolding role
good_thumb t f = jpeg t.jpeg t.strips (strips t.strips)
  where
    fs : Good Thumb (field_items t.fields)
    fs = good_fields Thumb t.fields f.fields

    none : (u : ℕ) → ((v : Value) → Allows (role Thumb u) v → ⊥) → NotThere u (field_items t.fields)
    none u n = no_field Thumb u t.fields n f.fields.each

    with_strips : Option (List (List ℕ)) → List (ℕ × Item)
    with_strips s =
        put_some strip_offsets_tag (option_map (λ s. AtStrips (length s)) s)
        (put_some strip_lengths_tag (option_map (λ s. StripSizes (map (λ x. length x) s)) s) (field_items t.fields))

    strips : (s : Option (List (List ℕ))) → Good Thumb (with_strips s) × NotThere jpeg_length_tag
        (with_strips s) × NotThere jpeg_offset_tag (with_strips s)
    strips None = (fs, none jpeg_length_tag (λ v a. a), none jpeg_offset_tag (λ v a. a))
    strips (Some s) = (
      good_put Thumb strip_offsets_tag (AtStrips (length s)) _ (omega arith) tt
          (each_put (λ i. i.0 ≡ strip_offsets_tag → ⊥) strip_lengths_tag _ _ (omega arith) (none strip_offsets_tag (λ v a. a)))
          (good_put Thumb strip_lengths_tag (StripSizes (map (λ x. length x) s)) _ (omega arith) tt (none strip_lengths_tag (λ v a. a)) fs),
      each_put (λ i. i.0 ≡ jpeg_length_tag → ⊥) strip_offsets_tag _ _ (omega arith)
          (each_put (λ i. i.0 ≡ jpeg_length_tag → ⊥) strip_lengths_tag _ _ (omega arith) (none jpeg_length_tag (λ v a. a))),
      each_put (λ i. i.0 ≡ jpeg_offset_tag → ⊥) strip_offsets_tag _ _ (omega arith)
          (each_put (λ i. i.0 ≡ jpeg_offset_tag → ⊥) strip_lengths_tag _ _ (omega arith) (none jpeg_offset_tag (λ v a. a))),
    )

    jpeg : (j : Option (List ℕ)) (s : Option (List (List ℕ)))
        → Good Thumb (with_strips s) × NotThere jpeg_length_tag (with_strips s) × NotThere jpeg_offset_tag (with_strips s) →
        Good Thumb (put_some jpeg_offset_tag (option_map (λ _. AtJpeg) j) (put_some jpeg_length_tag
        (option_map (λ x. JpegSize (length x)) j) (with_strips s)))
    jpeg None s h = h.0
    jpeg (Some x) s h =
        good_put Thumb jpeg_offset_tag AtJpeg _ (omega arith) tt (each_put (λ i. i.0 ≡ jpeg_offset_tag → ⊥) jpeg_length_tag _ _
        (omega arith) h.2)
        (good_put Thumb jpeg_length_tag (JpegSize (length x)) _ (omega arith) tt h.1 h.0)

pub if_map : {X Y : Type 0} (f : X → Y) (P : X → Type 0) (Q : Y → Type 0) → ((x : X) → P x → Q (f x)) → (o : Option X) → IfSome o P
    → IfSome (option_map f o) Q
if_map f P Q h None p = tt
if_map f P Q h (Some x) p = h x p

pub good_items : (m : Meaning) → IsWritable m → (d : Dir) → IfSome (items m d) (Good d)
unfolding items
good_items m f Main = good_main m f
good_items m f Exif = if_map exif_items IsWritableExif (Good Exif) good_exif m.exif f.exif
good_items m f Interop = interop m.exif f.exif
  where
    interop : (e : Option ExifPart) → IfSome e IsWritableExif
        → IfSome (option_and_then (λ e. option_map field_items e.interop) e) (Good Interop)
    interop None h = tt
    interop (Some e) h = if_map field_items (AreWritableFields Interop) (Good Interop) (λ fs g. good_fields Interop fs g) e.interop
        h.interop
good_items m f Gps = if_map field_items (AreWritableFields Gps) (Good Gps) (λ fs g. good_fields Gps fs g) m.gps f.gps
good_items m f Thumb = if_map thumb_items IsWritableThumb (Good Thumb) good_thumb m.thumb f.thumb

-- ---- few enough

rising_length : (k n : ℕ) (ts : List ℕ) → k ≤ n → AllByRecursion (λ t. k ≤ t) ts → AllByRecursion (λ t. t < n) ts → Rising ts
    → k + length ts ≤ n
rising_length k n [] l a b r = omega arith
rising_length k n (t ∷ ts) l a b r =
    let p = a.0 in let q = b.0 in
    let e : t + 1 + length ts ≤ n =
    rising_length (t + 1) n ts (omega arith) (each_map (λ u. t < u) (λ u. t + 1 ≤ u) (λ u h. omega arith) ts r.0) b.1 r.1 in
    omega arith

rising_missing : (k f n : ℕ) (ts : List ℕ) → k ≤ f → f < n → AllByRecursion (λ t. k ≤ t) ts → AllByRecursion (λ t. t < n) ts
    → AllByRecursion (λ t. t ≡ f → ⊥) ts → Rising ts → k + length ts + 1 ≤ n
rising_missing k f n [] l m a b c r = omega arith
rising_missing k f n (t ∷ ts) l m a b c r =
    elim (cases_lt t f) [
      | inl s ↦ let p = a.0 in
          let e : t + 1 + length ts + 1 ≤ n =
          rising_missing (t + 1) f n ts (omega arith) m (each_map (λ u. t < u) (λ u. t + 1 ≤ u) (λ u h. omega arith) ts r.0) b.1 c.1
          r.1 in omega arith
      | inr s ↦ let s' : f < t = elim (cases_eq t f) [ inl q ↦ absurd (c.0 q) | inr q ↦ omega arith ] in
          let p = b.0 in
          let e : t + 1 + length ts ≤ n =
          rising_length (t + 1) n ts (omega arith) (each_map (λ u. t < u) (λ u. t + 1 ≤ u) (λ u h. omega arith) ts r.0) b.1 r.1 in
          omega arith
    ]

free_offsets_forbidden : (d : Dir) → role d free_offsets_tag ≡ Forbidden
unfolding role
free_offsets_forbidden Main = refl
free_offsets_forbidden Exif = refl
free_offsets_forbidden Interop = refl
free_offsets_forbidden Gps = refl
free_offsets_forbidden Thumb = refl

no_suit : (x : Item) → Suits Forbidden x → ⊥
no_suit _ h = h

each_tag : (P : ℕ → Type 0) (Q : ℕ × Item → Type 0) → ((i : ℕ × Item) → Q i → P i.0) → (xs : List (ℕ × Item)) → AllByRecursion Q xs
    → AllByRecursion P (map (λ i. i.0) xs)
each_tag P Q f [] h = tt
each_tag P Q f (x ∷ xs) h = (f x h.0, each_tag P Q f xs h.1)

length_tags : (xs : List (ℕ × Item)) → length (map (λ (i : ℕ × Item). i.0) xs) ≡ length xs
length_tags [] = refl
length_tags (x ∷ xs) = ap suc (length_tags xs)

-- at most 65,535 entries: of 65,536 tags one at least is forbidden
pub few_items : (d : Dir) (xs : List (ℕ × Item)) → Good d xs → length xs < 2 ^ 16
few_items d xs g =
    let e = rising_missing 0 free_offsets_tag (2 ^ 16) (map (λ i. i.0) xs) (omega arith) (omega arith)
    (each_tag (λ t. 0 ≤ t) (λ i. i.0 < 2 ^ 16) (λ i h. omega arith) xs g.tags)
    (each_tag (λ t. t < 2 ^ 16) (λ i. i.0 < 2 ^ 16) (λ i h. h) xs g.tags)
    (each_tag (λ t. t ≡ free_offsets_tag → ⊥) (λ i. Suits (role d i.0) i.1)
    (λ i h q. no_suit i.1 (subst (λ r. Suits r i.1) (ap (role d) q ∙ free_offsets_forbidden d) h)) xs g.suit)
    g.rising in
    let l = length_tags xs in
    omega arith
