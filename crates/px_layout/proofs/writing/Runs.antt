-- Writing with offsets that run along.
use Rattle.std.proofs.Common.{◌≡◌, ℕ, zero, suc, ◌+◌, ◌-◌, ◌<◌, ◌≤◌, nat_lt, Option, Some, None, option_map, List, [], ◌∷◌, ◌++◌, map}
use Rattle.std.proofs.Common.{flat_map, length, take, drop, slice_get, replicate, unwrap_or, refl, sym, ◌∙◌, ap, ap₂, subst, arith}
use Rattle.std.proofs.Common.{append_assoc, lt-ltb, ltb-true, is_some, true, false, inl, inr, get_or}
use Rattle.std.specs.Prelude.{IfSome, option_and_then}
use Rattle.std.specs.List.{AllByRecursion, range_with_len}
use Rattle.std.proofs.lemmas.Bool.{cond-true, cond-false, cases_Bool, le-ltb}
use Rattle.px_bytes.specs.Parts.{limit}
use Rattle.px_bytes.specs.Numbers.{spelling}
use Rattle.px_bytes.specs.declared.Order.TheVariants.{Most}
use Rattle.px_field.specs.Forms.{code}
use Rattle.px_meaning.specs.declared.Dir.{Dir}
use Rattle.px_meaning.specs.declared.Dir.TheVariants.{Main, Exif, Interop, Gps, Thumb}
use Rattle.px_meaning.specs.Tree.{Fields, ExifPart, Thumbnail, Meaning}
use Rattle.px_meaning.specs.Entry.{table_size}
use Rattle.px_meaning.specs.Iim.{Iim}
use Rattle.px_meaning.specs.Writable.{Item, Iptc, AtJpeg, JpegSize, AtStrips, StripSizes, put_some, link, field_items, main_items, exif_items}
use Rattle.px_meaning.specs.Writable.{thumb_items, items, item_form, item_count, item_size, IsWritable}
use Rattle.px_layout.specs.declared.chunks.Chunk.TheVariants.{Table, Placed, Jpeg, Strip}
use Rattle.px_layout.specs.declared.starts.Starts.{Starts}
use Rattle.px_layout.specs.Chunks.{jpeg_chunks, strip_chunks, all_strip_chunks}
use Rattle.px_layout.specs.Plans.{Plan, place}
use Rattle.px_layout.specs.Laid.{long_bytes, item_bytes, last_bytes, entry_bytes, header}
use Rattle.px_layout.specs.Normal.{even, running, padded_size, normal_plan}
use Rattle.px_layout.specs.lemmas.EntryLaws.{Good, good_items, each_put}
use Rattle.px_layout.specs.lemmas.RunLaws.{values_size, start, dir_end, thumb_start, strips_start, jpeg_part, strips_part, thumb_parts}
use Rattle.px_layout.specs.lemmas.RunLaws.{thumb_found, jpeg_place, run_none, without_all_strips, table_place, no_table_place, value_place}
use Rattle.px_layout.specs.lemmas.RunLaws.{strip_place}
use Rattle.px_layout.specs.calls.Given.{head_bytes, last_given, entry_given, strip_list, CountsAllStrips, strips_size, strip_places}
use Rattle.px_layout.specs.calls.Starting.{AreStarts}
use Rattle.px_meaning.specs.Directory.{magic}
use Rattle.px_layout.proofs.writing.Beginnings.{dir_there, form_end, sized_read, sized_length}
use Rattle.px_layout.specs.lemmas.WalkLaws.{drop_here}

-- what is true of each element is true of one that is read
pub each_read : {X : Type 0} (P : X → Type 0) (xs : List X) (i : ℕ) (x : X) → AllByRecursion P xs → slice_get xs i ≡ Some x → P x
each_read P [] i x h e = cc
each_read P (y ∷ xs) zero x h e = let q : y ≡ x = cc in subst P q h.0
each_read P (y ∷ xs) (suc i) x h e = each_read P xs i x h.1 e

-- ---- entries

module _ (plan : Plan) where
  last_far : (at : ℕ) (x : Item) → 4 < item_size x → long_bytes Most at ≡ last_given plan at x
  unfolding last_given
  last_far at x l =
      sym (cond-true (nat_lt 4 (item_size x)) (long_bytes Most at) (item_bytes plan Most 0 x
      ++ replicate (4 - item_size x) 0) (lt-ltb 4 (item_size x) l))

  last_near : (at : ℕ) (x : Item) (n : ℕ) → n ≡ item_size x → n ≤ 4
      → item_bytes plan Most 0 x ++ replicate (4 - n) 0 ≡ last_given plan at x
  unfolding last_given
  last_near at x n e l =
      ap (λ k. item_bytes plan Most 0 x ++ replicate (4 - k) 0) e
      ∙ sym (cond-false (nat_lt 4 (item_size x)) (long_bytes Most at) (item_bytes plan Most 0 x
      ++ replicate (4 - item_size x) 0) (le-ltb 4 (item_size x) (omega arith)))

  given_as : (at : ℕ) (i : ℕ × Item) (head : List ℕ) → head ≡ head_bytes Most i → head ++ last_given plan at i.1 ≡ entry_given plan at i
  unfolding entry_given
  given_as at i head e =
      let last = last_given plan at i.1 in
      let tag = spelling Most 2 i.0 in
      let form = spelling Most 2 (code (item_form i.1)) in
      let count = long_bytes Most (item_count i.1) in
      ap (λ x. x ++ last) e ∙ append_assoc tag (form ++ count) last ∙ ap (λ x. tag ++ x) (append_assoc form count last)

  -- an entry whose value is placed, and one with its value in it
  pub given_far : (at : ℕ) (i : ℕ × Item) (n : ℕ) (bytes : List ℕ) → n ≡ item_size i.1 → 4 < n
      → bytes ≡ head_bytes Most i ++ long_bytes Most at → bytes ≡ entry_given plan at i
  given_far at i n bytes s l e =
      e ∙ ap (λ x. head_bytes Most i ++ x) (last_far at i.1 (omega (arith, s, l))) ∙ given_as at i (head_bytes Most i) refl

  pub given_near : (at : ℕ) (i : ℕ × Item) (n : ℕ) (head : List ℕ) → n ≡ item_size i.1 → n ≤ 4 → head ≡ head_bytes Most i
      → head ++ (item_bytes plan Most 0 i.1 ++ replicate (4 - n) 0) ≡ entry_given plan at i
  given_near at i n head s l e = ap (λ x. head ++ x) (last_near at i.1 n s l) ∙ given_as at i head e

  -- if `at` is the offset of its value, these are the entry's bytes
  pub given_is : (d : Dir) (at : ℕ) (i : ℕ × Item) → (4 < item_size i.1 → place plan (Placed d i.0) ≡ at)
      → entry_given plan at i ≡ entry_bytes plan Most 0 d i
  unfolding entry_given entry_bytes last_given last_bytes
  given_is d at i h =
      ap (λ last. spelling Most 2 i.0 ++ (spelling Most 2 (code (item_form i.1)) ++ (long_bytes Most (item_count i.1) ++ last)))
      (elim (cases_Bool (nat_lt 4 (item_size i.1))) [
        | inl t ↦ let rest : List ℕ = item_bytes plan Most 0 i.1 ++ replicate (4 - item_size i.1) 0 in
            cond-true (nat_lt 4 (item_size i.1)) (long_bytes Most at) rest t
            ∙ ap (long_bytes Most) (sym (h (ltb-true 4 (item_size i.1) t)))
            ∙ sym (cond-true (nat_lt 4 (item_size i.1)) (long_bytes Most (place plan (Placed d i.0))) rest t)
        | inr t ↦ let rest : List ℕ = item_bytes plan Most 0 i.1 ++ replicate (4 - item_size i.1) 0 in
            cond-false (nat_lt 4 (item_size i.1)) (long_bytes Most at) rest t
            ∙ sym (cond-false (nat_lt 4 (item_size i.1)) (long_bytes Most (place plan (Placed d i.0))) rest t)
      ])

-- ---- in the normal form

module _ (m : Meaning) where
  -- an entry of a directory, at the offset that the values have reached
  pub entry_running : (d : Dir) (xs : List (ℕ × Item)) (i at : ℕ) (x : ℕ × Item) → IsWritable m → items m d ≡ Some xs
      → slice_get xs i ≡ Some x →
      at + values_size (drop i xs) ≡ start m d + even (table_size (length xs)) + values_size xs
      → entry_given (normal_plan m) at x ≡ entry_bytes (normal_plan m) Most 0 d x
  entry_running d xs i at x f e r h =
      let g : Good d xs = subst (λ (o : Option (List (ℕ × Item))). IfSome o (Good d)) e (good_items m f d) in
      given_is (normal_plan m) d at x (λ l. value_place m d xs i at x e g.rising r l h)

  -- no directory ends after the limit
  dir_most : (s : Starts) (d : Dir) → AreStarts s m → IsWritable m → dir_end (start m d) m d ≤ limit
  dir_most s Main a f = let e = form_end m f in let n = a.ends in let l = a.most in omega arith
  dir_most s Exif a f = let e = form_end m f in let n = a.ends in let l = a.most in omega arith
  dir_most s Interop a f = let e = form_end m f in let n = a.ends in let l = a.most in omega arith
  dir_most s Gps a f = let e = form_end m f in let n = a.ends in let l = a.most in omega arith
  dir_most s Thumb a f = let e = form_end m f in let n = a.ends in let l = a.most in omega arith

  pub values_most : (s : Starts) (d : Dir) (xs : List (ℕ × Item)) → AreStarts s m → IsWritable m → items m d ≡ Some xs
      → start m d + even (table_size (length xs)) + values_size xs ≤ limit
  values_most s d xs a f e = let t = dir_there m d (start m d) xs e in let l = dir_most s d a f in omega arith

-- ---- the strips that an entry names

counts_fields : (m : Meaning) (fs : Fields) → AllByRecursion (λ i. CountsAllStrips m i.1) (field_items fs)
counts_fields m [] = tt
counts_fields m (x ∷ xs) = (tt, counts_fields m xs)

counts_some : (m : Meaning) (t : ℕ) (o : Option Item) (ys : List (ℕ × Item)) → IfSome o (CountsAllStrips m)
    → AllByRecursion (λ i. CountsAllStrips m i.1) ys → AllByRecursion (λ i. CountsAllStrips m i.1) (put_some t o ys)
counts_some m t None ys p h = h
counts_some m t (Some x) ys p h = each_put (λ i. CountsAllStrips m i.1) t x ys p h

pub strips_sum : (n : ℕ) (s : List (List ℕ)) → padded_size (strip_chunks n s) ≡ strips_size s
strips_sum n [] = refl
strips_sum n (x ∷ s) = ap (λ k. even (length x) + k) (strips_sum (n + 1) s)

pub place_read : (x : ℕ) (s : List (List ℕ)) (i at : ℕ) → i < length s → at + strips_size (drop i s) ≡ x + strips_size s
    → slice_get (strip_places x s) i ≡ Some at
place_read x [] i at l h = absurd (omega arith)
place_read x (y ∷ s) zero at l h = ap (λ (n : ℕ). Some n) (omega arith)
place_read x (y ∷ s) (suc i) at l h = place_read (x + even (length y)) s i at (omega arith) (omega arith)

-- the offsets of the plan are those that are computed on the way
same_places : (p : ℕ → ℕ) (n x : ℕ) (s : List (List ℕ)) → ((j : ℕ) → j < length s → p (n + j) ≡ x + strips_size (take j s))
    → flat_map (λ i. long_bytes Most (p i)) (range_with_len n (length s)) ≡ flat_map (long_bytes Most) (strip_places x s)
same_places p n x [] h = refl
same_places p n x (y ∷ s) h = ap₂ (λ (k : ℕ) (ys : List ℕ). long_bytes Most k ++ ys)
    (ap p (omega arith) ∙ h 0 (omega arith) ∙ omega arith)
    (same_places p (n + 1) (x + even (length y)) s (λ j l. ap p (omega arith) ∙ h (suc j) (omega arith) ∙ omega arith))

-- the bytes of the item that names all strips
pub strips_reported : (m : Meaning) (n : ℕ) → CountsAllStrips m (AtStrips n)
    → flat_map (long_bytes Most) (strip_places (strips_start m) (strip_list m.thumb)) ≡ flat_map
    (λ i. long_bytes Most (place (normal_plan m) (Strip i))) (range_with_len 0 n)
strips_reported m n h = sym (ap (λ k. flat_map (λ i. long_bytes Most (place (normal_plan m) (Strip i))) (range_with_len 0 k)) h
    ∙ same_places (λ i. place (normal_plan m) (Strip i)) 0 (strips_start m) (strip_list m.thumb) (go m.thumb refl))
  where
    go : (t : Option Thumbnail) → m.thumb ≡ t → (j : ℕ) → j < length (strip_list t)
        → place (normal_plan m) (Strip (0 + j)) ≡ strips_start m + strips_size (take j (strip_list t))
    go None e j l = absurd (omega arith)
    go (Some t) e j l = all t.strips refl j l
      where
        all : (o : Option (List (List ℕ))) → t.strips ≡ o → (j : ℕ) → j < length (unwrap_or o [])
            → place (normal_plan m) (Strip (0 + j)) ≡ strips_start m + strips_size (take j (unwrap_or o []))
        all None q j l = absurd (omega arith)
        all (Some s) q j l = ap (λ k. place (normal_plan m) (Strip k)) (omega arith) ∙ strip_place m t s j e q l
            ∙ ap (λ k. strips_start m + k) (strips_sum 0 (take j s))

-- ---- the JPEG

jpeg_run : (m : Meaning) → place (normal_plan m) Jpeg ≡ unwrap_or
    (running (thumb_start m) (jpeg_part m.thumb ++ strips_part m.thumb) Jpeg) 0
unfolding normal_plan
jpeg_run m =
    ap (λ o. unwrap_or o 0) (thumb_found m Jpeg (λ d. refl) (λ d u. refl) ∙ ap (λ y. running (thumb_start m) y Jpeg) (thumb_parts m.thumb))

pub jpeg_some : (m : Meaning) (t : Thumbnail) (x : List ℕ) → m.thumb ≡ Some t → t.jpeg ≡ Some x → thumb_start m ≡ place (normal_plan m) Jpeg
jpeg_some m t x e f = sym (jpeg_place m t x e f)

pub jpeg_gone : (m : Meaning) (t : Thumbnail) → m.thumb ≡ Some t → t.jpeg ≡ None → 0 ≡ place (normal_plan m) Jpeg
jpeg_gone m t e f =
    sym (jpeg_run m ∙ ap (λ o. unwrap_or o 0) (ap (λ y. running (thumb_start m) (jpeg_part y ++ strips_part y) Jpeg) e
    ∙ ap (λ y. running (thumb_start m) (jpeg_chunks y ++ all_strip_chunks t.strips) Jpeg) f
    ∙ run_none (thumb_start m) (all_strip_chunks t.strips) Jpeg (without_all_strips Jpeg (λ i. refl) t.strips)))

pub thumb_gone : (m : Meaning) → m.thumb ≡ None → 0 ≡ place (normal_plan m) Jpeg
thumb_gone m e = sym (jpeg_run m ∙ ap (λ o. unwrap_or o 0) (ap (λ y. running (thumb_start m) (jpeg_part y ++ strips_part y) Jpeg) e))

-- ---- the entries that name strips

counts_link : {X : Type 0} (m : Meaning) (d : Dir) (o : Option X) → IfSome (link d o) (CountsAllStrips m)
counts_link m d None = tt
counts_link m d (Some x) = tt

counts_record : (m : Meaning) (o : Option Iim) → IfSome (option_map Iptc o) (CountsAllStrips m)
counts_record m None = tt
counts_record m (Some x) = tt

counts_jpeg : (m : Meaning) (o : Option (List ℕ)) → IfSome (option_map (λ _. AtJpeg) o) (CountsAllStrips m) × IfSome
    (option_map (λ (x : List ℕ). JpegSize (length x)) o) (CountsAllStrips m)
counts_jpeg m None = (tt, tt)
counts_jpeg m (Some x) = (tt, tt)

counts_exif : (m : Meaning) (o : Option ExifPart) → IfSome (option_map exif_items o) (AllByRecursion (λ i. CountsAllStrips m i.1))
counts_exif m None = tt
counts_exif m (Some e) = counts_some m _ (link Interop e.interop) _ (counts_link m Interop e.interop) (counts_fields m e.fields)

counts_plain : (m : Meaning) (o : Option Fields) → IfSome (option_map field_items o) (AllByRecursion (λ i. CountsAllStrips m i.1))
counts_plain m None = tt
counts_plain m (Some fs) = counts_fields m fs

counts_interop : (m : Meaning) (o : Option ExifPart) → IfSome (option_and_then (λ e. option_map field_items e.interop) o)
    (AllByRecursion (λ i. CountsAllStrips m i.1))
counts_interop m None = tt
counts_interop m (Some e) = counts_plain m e.interop

counts_thumb : (m : Meaning) (o : Option Thumbnail) → m.thumb ≡ o → IfSome (option_map thumb_items o) (AllByRecursion (λ i. CountsAllStrips m i.1))
counts_thumb m None e = tt
counts_thumb m (Some t) e =
    counts_some m _ (option_map (λ _. AtJpeg) t.jpeg) _ (counts_jpeg m t.jpeg).0
    (counts_some m _ (option_map (λ x. JpegSize (length x)) t.jpeg) _ (counts_jpeg m t.jpeg).1
    (counts_some m _ (option_map (λ s. AtStrips (length s)) t.strips) _ (offsets t.strips refl)
    (counts_some m _ (option_map (λ s. StripSizes (map (λ x. length x) s)) t.strips) _ (sizes t.strips) (counts_fields m t.fields))))
  where
    offsets : (s : Option (List (List ℕ))) → t.strips ≡ s → IfSome (option_map (λ s. AtStrips (length s)) s) (CountsAllStrips m)
    offsets None q = tt
    offsets (Some s) q = sym (ap (λ y. length (strip_list y)) e ∙ ap (λ y. length (unwrap_or y [])) q)

    sizes : (s : Option (List (List ℕ))) → IfSome (option_map (λ s. StripSizes (map (λ x. length x) s)) s) (CountsAllStrips m)
    sizes None = tt
    sizes (Some s) = tt

pub counts_all : (m : Meaning) (d : Dir) → IfSome (items m d) (AllByRecursion (λ i. CountsAllStrips m i.1))
unfolding items
counts_all m Main =
    counts_some m _ (link Exif m.exif) _ (counts_link m Exif m.exif) (counts_some m _ (link Gps m.gps) _ (counts_link m Gps m.gps)
    (counts_some m _ (option_map Iptc m.iptc) _ (counts_record m m.iptc) (counts_fields m m.main)))
counts_all m Exif = counts_exif m m.exif
counts_all m Interop = counts_interop m m.exif
counts_all m Gps = counts_plain m m.gps
counts_all m Thumb = counts_thumb m m.thumb refl

pub counts_read : (m : Meaning) (d : Dir) (xs : List (ℕ × Item)) (i : ℕ) (x : ℕ × Item) → items m d ≡ Some xs → slice_get xs i ≡ Some x
    → CountsAllStrips m x.1
counts_read m d xs i x e r =
    each_read (λ i. CountsAllStrips m i.1) xs i x (subst (λ (o : Option (List (ℕ × Item))). IfSome o (AllByRecursion (λ i. CountsAllStrips m i.1))) e
    (counts_all m d)) r

-- what strips from one on take
pub strips_next : (s : List (List ℕ)) (i n : ℕ) → slice_get (map (λ x. length x) s) i ≡ Some n
    → strips_size (drop i s) ≡ even n + strips_size (drop (i + 1) s)
strips_next s i n e =
    ap strips_size (drop_here s i (get_or s i []) (sized_read s i n e))
    ∙ ap (λ (m : ℕ). even m + strips_size (drop (i + 1) s)) (sized_length s i n e)

pub length_places : (x : ℕ) (s : List (List ℕ)) → length (strip_places x s) ≡ length s
length_places x [] = refl
length_places x (y ∷ s) = ap suc (length_places (x + even (length y)) s)

-- the strips end before the limit
pub strips_most : (m : Meaning) (s : Starts) (t : Option Thumbnail) → AreStarts s m → IsWritable m → m.thumb ≡ t
    → s.strips + strips_size (strip_list t) ≤ limit
strips_most m s t a f e =
    let n = form_end m f in
    let p = ap (λ y. padded_size (strips_part y)) e in
    let q = part t in
    let k = a.strips in
    let l = a.ends in
    let z = a.most in
    omega arith
  where
    all : (o : Option (List (List ℕ))) → padded_size (all_strip_chunks o) ≡ strips_size (unwrap_or o [])
    all None = refl
    all (Some s) = strips_sum 0 s

    part : (t : Option Thumbnail) → padded_size (strips_part t) ≡ strips_size (strip_list t)
    part None = refl
    part (Some t) = all t.strips

-- the item that names all strips
pub item_reported : (m : Meaning) (x : Item) (n : ℕ) → x ≡ AtStrips n → CountsAllStrips m x
    → flat_map (long_bytes Most) (strip_places (strips_start m) (strip_list m.thumb)) ≡ item_bytes (normal_plan m) Most 0 x
unfolding item_bytes
item_reported m x n e h = strips_reported m n (subst (CountsAllStrips m) e h) ∙ sym (ap (item_bytes (normal_plan m) Most 0) e)

-- ---- the tables

pub place_there : (m : Meaning) (d : Dir) (o : Option (List (ℕ × Item))) → items m d ≡ o → is_some o ≡ true
    → place (normal_plan m) (Table d) ≡ start m d
place_there m d (Some xs) e t = table_place m d xs e
place_there m d None e t = absurd (cc)

pub place_gone : (m : Meaning) (d : Dir) (o : Option (List (ℕ × Item))) → items m d ≡ o → is_some o ≡ false
    → place (normal_plan m) (Table d) ≡ 0
place_gone m d (Some xs) e f = absurd (cc)
place_gone m d None e f = no_table_place m d e

-- ---- the header

-- the main directory follows the header directly
pub header_is : (m : Meaning) → 0x4D ∷ 0x4D ∷ 0 ∷ 0x2A ∷ 0 ∷ 0 ∷ 0 ∷ 8 ∷ [] ≡ header (normal_plan m) Most 0
unfolding header items
header_is m = sym (ap (λ n. magic Most ++ long_bytes Most n) (table_place m Main (main_items m) refl))
