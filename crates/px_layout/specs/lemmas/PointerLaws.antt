-- In a legal block the header, the pointers and the next offset lead to the tables of the plan.
use Rattle.std.proofs.Common.{◌≡◌, ℕ, ◌^◌, ◌<◌, ◌==◌, Option, Some, None, option_map, option_and_then, List, [], ◌++◌, map, filter_map}
use Rattle.std.proofs.Common.{flat_map, take, drop, refl, sym, ◌∙◌, ap, subst, arith, ne_eqb}
use Rattle.std.specs.Prelude.{IfSome}
use Rattle.std.specs.List.{AllByRecursion}
use Rattle.std.proofs.lemmas.Bool.{cond-false}
use Rattle.std.proofs.lemmas.List.{drop-take, take-take}
use Rattle.px_bytes.specs.declared.Order.{Order}
use Rattle.px_bytes.specs.declared.Order.TheVariants.{Least, Most}
use Rattle.px_bytes.specs.Numbers.{number, spelling}
use Rattle.px_bytes.specs.Parts.{part}
use Rattle.px_bytes.specs.Range.{Range, range, Apart}
use Rattle.px_bytes.specs.lemmas.NumberLaws.{number_spelling}
use Rattle.px_bytes.specs.lemmas.EachLaws.{each_in_map, each_left, each_right}
use Rattle.px_meaning.specs.declared.Dir.{Dir}
use Rattle.px_meaning.specs.declared.Dir.TheVariants.{Main, Exif, Interop, Gps, Thumb}
use Rattle.px_meaning.specs.Tree.{ExifPart, Thumbnail, Meaning}
use Rattle.px_meaning.specs.Roles.{exif_tag, gps_tag, record_tag, interop_tag, role, at_tag}
use Rattle.px_meaning.specs.Entry.{long, table, next, fields}
use Rattle.px_meaning.specs.Directory.{magic, pointer, dir_at, unless_zero, entries_at, dirs}
use Rattle.px_meaning.specs.Writable.{Item, Iptc, link, field_items, main_items, exif_items, thumb_items, items, IsWritableField}
use Rattle.px_meaning.specs.Writable.{IsWritableExif, IsWritable}
use Rattle.px_layout.specs.Chunks.{thumb_chunks, chunks_of_dir, chunks}
use Rattle.px_layout.specs.declared.chunks.Chunk.{Chunk}
use Rattle.px_layout.specs.declared.chunks.Chunk.TheVariants.{Table}
use Rattle.px_layout.specs.Plans.{Plan, place, Legal, plan_ranges}
use Rattle.px_layout.specs.Laid.{long_bytes, next_bytes, header}
use Rattle.px_layout.specs.lemmas.ItemLaws.{item_field, entry_of}
use Rattle.px_layout.specs.lemmas.EntryLaws.{no_field, not_put}
use Rattle.px_layout.specs.lemmas.TagLaws.{at_some_same, at_some_other, pointer_found}
use Rattle.px_layout.specs.lemmas.PlacedLaws.{block, header_here, good_dir, table_here, table_near, items_here, some_items, entries_few}
use Rattle.px_layout.specs.lemmas.DirectoryLaws.{entries_are, next_is, fields_are}
use Rattle.px_layout.specs.lemmas.SizeLaws.{length_header}

pub if_all : {X : Type 0} (P : Type 0) (o : Option X) → ((x : X) → o ≡ Some x → P) → IfSome o (λ _. P)
if_all P None h = tt
if_all P (Some x) h = h x refl

-- ---- the entry at a pointer's tag

module _ (m : Meaning) (f : IsWritable m) where
  pub exif_link : at_tag exif_tag (main_items m) ≡ link Exif m.exif
  unfolding role
  exif_link =
      at_some_same exif_tag (link Exif m.exif) _ (not_put exif_tag gps_tag (link Gps m.gps) _ (omega arith)
      (not_put exif_tag record_tag (option_map Iptc m.iptc) _ (omega arith) (no_field Main exif_tag m.main (λ v a. a) f.main.each)))

  pub gps_link : at_tag gps_tag (main_items m) ≡ link Gps m.gps
  unfolding role
  gps_link = at_some_other gps_tag exif_tag (link Exif m.exif) _ (omega arith)
      ∙ at_some_same gps_tag (link Gps m.gps) _ (not_put gps_tag record_tag (option_map Iptc m.iptc) _ (omega arith)
      (no_field Main gps_tag m.main (λ v a. a) f.main.each))

pub interop_link : (e : ExifPart) → AllByRecursion (IsWritableField Exif) e.fields
    → at_tag interop_tag (exif_items e) ≡ link Interop e.interop
unfolding role
interop_link e h = at_some_same interop_tag (link Interop e.interop) _ (no_field Exif interop_tag e.fields (λ v a. a) h)

link_near : {X Y : Type 0} (d : Dir) (o : Option X) (g : X → Y) (N : Type 0) → IfSome (option_map g o) (λ _. N) → (x : Item)
    → link d o ≡ Some x → N
link_near d None g N h x e = cc
link_near d (Some y) g N h x e = h

link_place : {X Y : Type 0} (d : Dir) (o : Option X) (g : X → Y) (n : ℕ)
    → option_map (λ _. n) (link d o) ≡ option_map (λ _. n) (option_map g o)
link_place d None g n = refl
link_place d (Some y) g n = refl

module _ (m : Meaning) (plan : Plan) (o : Order) (filler : ℕ) (f : IsWritable m) (l : Legal m plan) where
  abbrev b : List ℕ
  b = block m plan o filler f l

  -- ---- the header

  header_is : take 8 b ≡ header plan o filler
  header_is = ap (λ n. take n b) (sym (length_header plan o filler)) ∙ (header_here m plan o filler f l).is

  pub begins_is : take 4 b ≡ magic o
  unfolding header
  begins_is = sym (take-take 4 8 b (omega arith)) ∙ ap (take 4) header_is ∙ first o
    where
      first : (p : Order) → take 4 (magic p ++ spelling p 4 (place plan (Table Main))) ≡ magic p
      first Least = refl
      first Most = refl

  pub main_items_are : items m Main ≡ Some (main_items m)
  unfolding items
  main_items_are = refl

  pub main_place : long o (part b 4 4) ≡ place plan (Table Main)
  unfolding header
  main_place = ap (number o 4) (sym (drop-take 4 4 b) ∙ ap (drop 4) header_is ∙ rest o)
      ∙ number_spelling o 4 (place plan (Table Main)) (table_near m plan o filler f l Main (main_items m) main_items_are)
    where
      rest : (p : Order) → drop 4 (magic p ++ spelling p 4 (place plan (Table Main))) ≡ spelling p 4 (place plan (Table Main))
      rest Least = refl
      rest Most = refl

  -- ---- the entries of a directory of the meaning

  module _ (d : Dir) (xs : List (ℕ × Item)) (is : items m d ≡ Some xs) where
    pub entries_of : entries_at b o (place plan (Table d)) ≡ map (entry_of plan o filler d) xs
    entries_of =
        entries_are plan o filler b m d xs (items_here m plan o filler f l d xs is) (some_items m plan o filler f l d xs is)
        (entries_few m plan o filler f l d xs is) (table_here m plan o filler f l d xs is)

    pub fields_of : fields b o d (place plan (Table d)) ≡ filter_map item_field xs
    fields_of =
        fields_are plan o filler b m d xs (items_here m plan o filler f l d xs is) (some_items m plan o filler f l d xs is)
        (entries_few m plan o filler f l d xs is) (table_here m plan o filler f l d xs is)

    pub next_of : next o (table b o (place plan (Table d))) ≡ long o (next_bytes plan o filler m d)
    next_of =
        next_is plan o filler b m d xs (items_here m plan o filler f l d xs is) (some_items m plan o filler f l d xs is)
        (entries_few m plan o filler f l d xs is) (table_here m plan o filler f l d xs is)

  pub main_entries : entries_at b o (long o (part b 4 4)) ≡ map (entry_of plan o filler Main) (main_items m)
  main_entries = ap (entries_at b o) main_place ∙ entries_of Main (main_items m) main_items_are

  near_dir : (d : Dir) → IfSome (items m d) (λ _. place plan (Table d) < 2 ^ 32)
  near_dir d = if_all (place plan (Table d) < 2 ^ 32) (items m d) (λ xs e. table_near m plan o filler f l d xs e)

  -- ---- the offset of each directory

  abbrev at_plan : Dir → Option ℕ
  at_plan d = option_map (λ _. place plan (Table d)) (items m d)

  exif_pointer : pointer o exif_tag (entries_at b o (long o (part b 4 4))) ≡ at_plan Exif
  unfolding items role
  exif_pointer = ap (pointer o exif_tag) main_entries
      ∙ pointer_found plan o filler Main exif_tag Exif (main_items m) refl (λ x e. link_near Exif m.exif exif_items _ (near_dir Exif) x
      (sym (exif_link m f) ∙ e)) (good_dir m plan o filler f l Main (main_items m) main_items_are).suit
      ∙ ap (option_map (λ _. place plan (Table Exif))) (exif_link m f) ∙ link_place Exif m.exif exif_items (place plan (Table Exif))

  gps_pointer : pointer o gps_tag (entries_at b o (long o (part b 4 4))) ≡ at_plan Gps
  unfolding items role
  gps_pointer = ap (pointer o gps_tag) main_entries
      ∙ pointer_found plan o filler Main gps_tag Gps (main_items m) refl (λ x e. link_near Gps m.gps field_items _ (near_dir Gps) x
      (sym (gps_link m f) ∙ e)) (good_dir m plan o filler f l Main (main_items m) main_items_are).suit
      ∙ ap (option_map (λ _. place plan (Table Gps))) (gps_link m f) ∙ link_place Gps m.gps field_items (place plan (Table Gps))

  pub exif_items_are : (e : ExifPart) → m.exif ≡ Some e → items m Exif ≡ Some (exif_items e)
  unfolding items
  exif_items_are e q = ap (option_map exif_items) q

  pub interop_items_are : (e : ExifPart) → m.exif ≡ Some e → items m Interop ≡ option_map field_items e.interop
  unfolding items
  interop_items_are e q = ap (option_and_then (λ e. option_map field_items e.interop)) q

  no_interop : m.exif ≡ None → items m Interop ≡ None
  unfolding items
  no_interop q = ap (option_and_then (λ e. option_map field_items e.interop)) q

  no_exif : m.exif ≡ None → items m Exif ≡ None
  unfolding items
  no_exif q = ap (option_map exif_items) q

  pub exif_fits : (e : ExifPart) → m.exif ≡ Some e → IsWritableExif e
  exif_fits e q = subst (λ x. IfSome x IsWritableExif) q f.exif

  interop_pointer : (x : Option ExifPart) → m.exif ≡ x → option_and_then (λ a. pointer o interop_tag (entries_at b o a))
      (at_plan Exif) ≡ at_plan Interop
  unfolding role
  interop_pointer None q =
      ap (λ x. option_and_then (λ a. pointer o interop_tag (entries_at b o a)) (option_map (λ _. place plan (Table Exif)) x)) (no_exif q)
      ∙ sym (ap (option_map (λ _. place plan (Table Interop))) (no_interop q))
  interop_pointer (Some e) q =
      ap (λ x. option_and_then (λ a. pointer o interop_tag (entries_at b o a)) (option_map (λ _. place plan (Table Exif)) x))
      (exif_items_are e q)
      ∙ ap (pointer o interop_tag) (entries_of Exif (exif_items e) (exif_items_are e q))
      ∙ pointer_found plan o filler Exif interop_tag Interop (exif_items e) refl
      (λ x r. link_near Interop e.interop field_items _ (subst (λ z. IfSome z (λ _. place plan (Table Interop) < 2 ^ 32))
      (interop_items_are e q) (near_dir Interop)) x (sym link' ∙ r))
      (good_dir m plan o filler f l Exif (exif_items e) (exif_items_are e q)).suit
      ∙ ap (option_map (λ _. place plan (Table Interop))) link' ∙ link_place Interop e.interop field_items (place plan (Table Interop))
      ∙ sym (ap (option_map (λ _. place plan (Table Interop))) (interop_items_are e q))
    where
      link' : at_tag interop_tag (exif_items e) ≡ link Interop e.interop
      link' = interop_link e (exif_fits e q).fields.each

  -- the thumbnail directory isn't at 0, where the header is
  past_header : (d : Dir) (xs : List (ℕ × Item)) → items m d ≡ Some xs → place plan (Table d) ≡ 0 → ⊥
  unfolding plan_ranges chunks
  past_header d xs is z =
      let R : Chunk × ℕ → Range = λ c. range (place plan c.0) c.1 in
      let G : Dir → List (Chunk × ℕ) = λ d. chunks_of_dir d (items m d) in
      let all : AllByRecursion (λ c. Apart (range 0 8) (R c)) (chunks m) = each_in_map (Apart (range 0 8)) R (chunks m) l.apart.0 in
      let of_dirs : AllByRecursion (λ c. Apart (range 0 8) (R c)) (flat_map G dirs) =
      each_left _ (flat_map G dirs) (thumb_chunks m.thumb) all in
      let mine : AllByRecursion (λ c. Apart (range 0 8) (R c)) (chunks_of_dir d (Some xs)) = subst
      (λ x. AllByRecursion (λ c. Apart (range 0 8) (R c)) (chunks_of_dir d x)) is (picked (λ c. Apart (range 0 8) (R c)) G d of_dirs) in
      mine.0 0 (omega arith, omega arith) (omega arith, omega arith)
    where
      picked : (P : Chunk × ℕ → Type 0) (G : Dir → List (Chunk × ℕ)) (d : Dir) → AllByRecursion P (flat_map G dirs) → AllByRecursion P (G d)
      picked P G Main h = each_left P (G Main) _ h
      picked P G Exif h = each_left P (G Exif) _ (each_right P (G Main) _ h)
      picked P G Interop h = each_left P (G Interop) _ (each_right P (G Exif) _ (each_right P (G Main) _ h))
      picked P G Gps h = each_left P (G Gps) _ (each_right P (G Interop) _ (each_right P (G Exif) _ (each_right P (G Main) _ h)))
      picked P G Thumb h =
          each_left P (G Thumb) [] (each_right P (G Gps) _ (each_right P (G Interop) _
          (each_right P (G Exif) _ (each_right P (G Main) _ h))))

  pub thumb_items_are : (t : Thumbnail) → m.thumb ≡ Some t → items m Thumb ≡ Some (thumb_items t)
  unfolding items
  thumb_items_are t q = ap (option_map thumb_items) q

  no_thumb : m.thumb ≡ None → items m Thumb ≡ None
  unfolding items
  no_thumb q = ap (option_map thumb_items) q

  next_main : (x : Option Thumbnail) → m.thumb ≡ x → unless_zero (long o (next_bytes plan o filler m Main)) ≡ at_plan Thumb
  next_main None q =
      ap (λ x. unless_zero (number o 4 (elim x as (λ _. List ℕ) [
        | Some t ↦ long_bytes o (place plan (Table Thumb))
        | None ↦ long_bytes o 0
      ]))) q
      ∙ ap unless_zero (number_spelling o 4 0 (omega arith)) ∙ sym (ap (option_map (λ _. place plan (Table Thumb))) (no_thumb q))
  next_main (Some t) q =
      ap (λ x. unless_zero (number o 4 (elim x as (λ _. List ℕ) [
        | Some t ↦ long_bytes o (place plan (Table Thumb))
        | None ↦ long_bytes o 0
      ]))) q
      ∙ ap unless_zero (number_spelling o 4 (place plan (Table Thumb)) (table_near m plan o filler f l Thumb (thumb_items t)
      (thumb_items_are t q)))
      ∙ cond-false (place plan (Table Thumb) == 0) None (Some (place plan (Table Thumb)))
      (ne_eqb (place plan (Table Thumb)) 0 (past_header Thumb (thumb_items t) (thumb_items_are t q)))
      ∙ sym (ap (option_map (λ _. place plan (Table Thumb))) (thumb_items_are t q))

  -- each directory is at its offset of the plan, and there is no other
  pub dir_at_plan : (d : Dir) → dir_at b o d ≡ option_map (λ _. place plan (Table d)) (items m d)
  unfolding dir_at
  dir_at_plan Main = ap (λ n. Some n) main_place ∙ sym (ap (option_map (λ _. place plan (Table Main))) main_items_are)
  dir_at_plan Exif = exif_pointer
  dir_at_plan Interop = ap (option_and_then (λ a. pointer o interop_tag (entries_at b o a))) exif_pointer ∙ interop_pointer m.exif refl
  dir_at_plan Gps = gps_pointer
  dir_at_plan Thumb =
      ap unless_zero (ap (λ a. next o (table b o a)) main_place ∙ next_of Main (main_items m) main_items_are) ∙ next_main m.thumb refl
