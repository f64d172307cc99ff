-- The pieces of a plan: inside the block, and put over it from the last to the first.
use Rattle.std.proofs.Common.{◌≡◌, ℕ, zero, suc, ◌+◌, ◌<◌, ◌≤◌, ◌^◌, nat_lt, Option, Some, None, List, [], ◌∷◌, ◌++◌, filter_map, flat_map}
use Rattle.std.proofs.Common.{length, drop, slice_get, replicate, refl, sym, ◌∙◌, ap, ap₂, subst, arith, lt-ltb, ltb-true, append-nil}
use Rattle.std.specs.Prelude.{IfSome, Result, Ok, Err, OnOk}
use Rattle.std.specs.List.{AllByRecursion, cons_option}
use Rattle.std.proofs.lemmas.Bool.{cond-true, cond-false, false_from_ne_true}
use Rattle.std.proofs.lemmas.List.{map-append, length-replicate}
use Rattle.px_bytes.specs.declared.Order.{Order}
use Rattle.px_bytes.specs.lemmas.EachLaws.{each_in_map, each_left, each_right}
use Rattle.px_meaning.specs.declared.Dir.{Dir}
use Rattle.px_meaning.specs.declared.Dir.TheVariants.{Main, Exif, Interop, Gps, Thumb}
use Rattle.px_meaning.specs.Tree.{Thumbnail, Meaning}
use Rattle.px_meaning.specs.Directory.{dirs}
use Rattle.px_meaning.specs.Writable.{Item, item_size, items, IsWritable}
use Rattle.px_layout.specs.declared.chunks.Chunk.{Chunk}
use Rattle.px_layout.specs.declared.chunks.Chunk.TheVariants.{Table, Placed, Strip}
use Rattle.px_plans.specs.declared.layout.Layout.{Layout}
use Rattle.px_layout.specs.Plans.{Plan, place, Legal}
use Rattle.px_layout.specs.Laid.{item_bytes, table_bytes, placed_content, contents_of_dir, contents, jpeg_contents, strip_contents}
use Rattle.px_layout.specs.Laid.{all_strip_contents, thumb_contents, header, laid_pieces, laid}
use Rattle.px_layout.specs.lemmas.PlacementLaws.{piece_range}
use Rattle.px_layout.specs.lemmas.EntryLaws.{Good, good_items, few_items}
use Rattle.px_layout.specs.lemmas.SizeLaws.{ranges_are}
use Rattle.px_plans.specs.calls.Building.{made, AreInside, PutsOver, at_places, value_pieces, dir_pieces}
use Rattle.px_plans.specs.calls.Layouts.{plan_of_layout, meaning_of_layout, table_in}
use Rattle.px_plans.proofs.plans.Built.{puts_none, puts_more, none_made, drop_get}

module _ (l : Layout) where
  abbrev P : Plan
  P = plan_of_layout l

  abbrev o : Order
  o = l.order

  abbrev f : ℕ
  f = l.filler

  -- ---- strips

  pub strips_more : (a b c : List ℕ) (s : List (List ℕ)) (j k : ℕ) (x : List ℕ) → k ≡ j + 1 → slice_get s j ≡ Some x → length b ≡ length a →
      PutsOver a b (at_places l (strip_contents k (drop k s))) → PutsOver b c ((place P (Strip j), x) ∷ [])
      → PutsOver a c (at_places l (strip_contents j (drop j s)))
  strips_more a b c s j k x e q n p r =
      subst (PutsOver a c) (ap (λ i. (place P (Strip j), x) ∷ at_places l (strip_contents i (drop k s))) e
      ∙ sym (ap (λ t. at_places l (strip_contents j t)) (drop_get s j k x e q)))
      (puts_more a b c ((place P (Strip j), x) ∷ []) (at_places l (strip_contents k (drop k s))) n p r)

  strip_from : (n i m j : ℕ) (s : List (List ℕ)) (x : List ℕ) → m ≡ i + j → slice_get s j ≡ Some x
      → AreInside n (at_places l (strip_contents i s)) → place P (Strip m) + length x ≤ n
  strip_from n i m j [] x e q h = cc
  strip_from n i m zero (y ∷ s) x e q h =
      let k : y ≡ x = cc in
      let w : i ≡ m = omega arith in
      subst (λ z. place P (Strip z) + length x ≤ n) w (subst (λ z. place P (Strip i) + length z ≤ n) k h.0)
  strip_from n i m (suc j) (y ∷ s) x e q h = strip_from n (i + 1) m j s x (omega arith) q h.1

  pub strip_inside : (n j : ℕ) (s : List (List ℕ)) (x : List ℕ) → slice_get s j ≡ Some x → AreInside n (at_places l (strip_contents 0 s))
      → place P (Strip j) + length x ≤ n
  strip_inside n j s x q h = strip_from n 0 j j s x (omega arith) q h

  -- ---- values that have an offset

  module _ (d : Dir) where
    cut : (y : Option (Chunk × List ℕ)) (ys : List (Chunk × List ℕ))
        → at_places l (cons_option y ys) ≡ at_places l (cons_option y []) ++ at_places l ys
    cut None ys = refl
    cut (Some y) ys = refl

    pub values_cons : (x : ℕ × Item) (xs : List (ℕ × Item)) → value_pieces l d (x ∷ xs) ≡ value_pieces l d (x ∷ []) ++ value_pieces l d xs
    values_cons x xs = cut (placed_content P o f d x) (filter_map (placed_content P o f d) xs)

    pub values_more : (a b c : List ℕ) (xs : List (ℕ × Item)) (j k : ℕ) (x : ℕ × Item) → k ≡ j + 1 → slice_get xs j ≡ Some x
        → length b ≡ length a →
        PutsOver a b (value_pieces l d (drop k xs)) → PutsOver b c (value_pieces l d (x ∷ [])) → PutsOver a c (value_pieces l d (drop j xs))
    values_more a b c xs j k x e q n p r =
        subst (PutsOver a c) (sym (values_cons x (drop k xs)) ∙ sym (ap (value_pieces l d) (drop_get xs j k x e q)))
        (puts_more a b c (value_pieces l d (x ∷ [])) (value_pieces l d (drop k xs)) n p r)

    abbrev InN : ℕ → ℕ × List ℕ → Type 0
    InN n y = y.0 + length y.1 ≤ n

    pub value_inside : (n j : ℕ) (xs : List (ℕ × Item)) (x : ℕ × Item) → slice_get xs j ≡ Some x → AreInside n (value_pieces l d xs)
        → AreInside n (value_pieces l d (x ∷ []))
    value_inside n j [] x q h = cc
    value_inside n zero (y ∷ xs) x q h =
        let k : y ≡ x = cc in
        subst (λ (z : ℕ × Item). AreInside n (value_pieces l d (z ∷ []))) k
        (each_left (InN n) (value_pieces l d (y ∷ [])) (value_pieces l d xs) (subst (AreInside n) (values_cons y xs) h))
    value_inside n (suc j) (y ∷ xs) x q h =
        value_inside n j xs x q (each_right (InN n) (value_pieces l d (y ∷ [])) (value_pieces l d xs)
        (subst (AreInside n) (values_cons y xs) h))

    pub value_here : (x : ℕ × Item) → item_size x.1 ≤ 4 → value_pieces l d (x ∷ []) ≡ []
    unfolding placed_content
    value_here x h =
        ap (λ y. at_places l (cons_option y [])) (cond-false (nat_lt 4 (item_size x.1)) (Some (Placed d x.0, item_bytes P o f x.1)) None
        (false_from_ne_true _ (λ e. let k = ltb-true 4 (item_size x.1) e in omega arith)))

    pub value_placed : (x : ℕ × Item) → 4 < item_size x.1 → value_pieces l d (x ∷ []) ≡ (place P (Placed d x.0), item_bytes P o f x.1) ∷ []
    unfolding placed_content
    value_placed x h =
        ap (λ y. at_places l (cons_option y [])) (cond-true (nat_lt 4 (item_size x.1)) (Some (Placed d x.0, item_bytes P o f x.1)) None
        (lt-ltb 4 (item_size x.1) h))

  -- ---- a directory

  module _ (m : Meaning) where
    pub dir_some : (d : Dir) (xs : List (ℕ × Item)) → items m d ≡ Some xs
        → dir_pieces l m d ≡ ((place P (Table d), table_bytes P o f m d xs) ∷ []) ++ value_pieces l d xs
    dir_some d xs e = ap (λ x. at_places l (contents_of_dir P o f m d x)) e

    abbrev dir_contents : List Dir → List (Chunk × List ℕ)
    dir_contents ds = flat_map (λ d. contents_of_dir P o f m d (items m d)) ds

    pub dirs_cons : (d : Dir) (ds : List Dir) → at_places l (dir_contents (d ∷ ds)) ≡ dir_pieces l m d ++ at_places l (dir_contents ds)
    dirs_cons d ds = map-append (λ c. (place P c.0, c.1)) (contents_of_dir P o f m d (items m d)) (dir_contents ds)

    -- the five directories, the last first
    pub parts_five : (a b c e g h : List ℕ) → length b ≡ length a → length c ≡ length a → length e ≡ length a → length g ≡ length a →
        PutsOver a b (dir_pieces l m Thumb) → PutsOver b c (dir_pieces l m Gps) → PutsOver c e (dir_pieces l m Interop)
        → PutsOver e g (dir_pieces l m Exif) → PutsOver g h (dir_pieces l m Main) →
        PutsOver a h (at_places l (dir_contents dirs))
    parts_five a b c e g h lb lc le lg pt pg pi px pm =
        let last : dir_pieces l m Thumb ≡ at_places l (dir_contents (Thumb ∷ [])) =
        ap (at_places l) (sym (append-nil (contents_of_dir P o f m Thumb (items m Thumb)))) in
        let t = subst (PutsOver a b) last pt in
        let u = subst (PutsOver a c) (sym (dirs_cons Gps (Thumb ∷ []))) (puts_more a b c _ _ lb t pg) in
        let v = subst (PutsOver a e) (sym (dirs_cons Interop (Gps ∷ Thumb ∷ []))) (puts_more a c e _ _ lc u pi) in
        let w = subst (PutsOver a g) (sym (dirs_cons Exif (Interop ∷ Gps ∷ Thumb ∷ []))) (puts_more a e g _ _ le v px) in
        subst (PutsOver a h) (sym (dirs_cons Main (Exif ∷ Interop ∷ Gps ∷ Thumb ∷ []))) (puts_more a g h _ _ lg w pm)

    -- ---- inside

    module _ (fits : IsWritable m) (legal : Legal m P) where
      all_inside : AreInside P.length (laid_pieces P o f m)
      all_inside = each_in_map (λ r. r.start + r.size ≤ P.length) piece_range (laid_pieces P o f m)
          (subst (AllByRecursion (λ r. r.start + r.size ≤ P.length)) (sym (ranges_are P o f m fits)) legal.inside)

      pub pieces_split : laid_pieces P o f m ≡ (0, header P o f) ∷ (at_places l (dir_contents dirs) ++ at_places l (thumb_contents m.thumb))
      unfolding laid_pieces contents
      pieces_split = ap (λ t. (0, header P o f) ∷ t) (map-append (λ c. (place P c.0, c.1)) (dir_contents dirs) (thumb_contents m.thumb))

      parts_inside : AreInside P.length ((0, header P o f) ∷ (at_places l (dir_contents dirs) ++ at_places l (thumb_contents m.thumb)))
      parts_inside = subst (AreInside P.length) pieces_split all_inside

      pub thumb_inside : AreInside P.length (at_places l (thumb_contents m.thumb))
      thumb_inside =
          each_right (λ y. y.0 + length y.1 ≤ P.length) (at_places l (dir_contents dirs)) (at_places l (thumb_contents m.thumb))
          parts_inside.1

      dirs_inside : AreInside P.length (at_places l (dir_contents dirs))
      dirs_inside =
          each_left (λ y. y.0 + length y.1 ≤ P.length) (at_places l (dir_contents dirs)) (at_places l (thumb_contents m.thumb))
          parts_inside.1

      first_dir : (d : Dir) (ds : List Dir) → AreInside P.length (at_places l (dir_contents (d ∷ ds)))
          → AreInside P.length (dir_pieces l m d)
      first_dir d ds h =
          each_left (λ y. y.0 + length y.1 ≤ P.length) (dir_pieces l m d) (at_places l (dir_contents ds))
          (subst (AreInside P.length) (dirs_cons d ds) h)

      next_dirs : (d : Dir) (ds : List Dir) → AreInside P.length (at_places l (dir_contents (d ∷ ds)))
          → AreInside P.length (at_places l (dir_contents ds))
      next_dirs d ds h =
          each_right (λ y. y.0 + length y.1 ≤ P.length) (dir_pieces l m d) (at_places l (dir_contents ds))
          (subst (AreInside P.length) (dirs_cons d ds) h)

      from_exif : AreInside P.length (at_places l (dir_contents (Exif ∷ Interop ∷ Gps ∷ Thumb ∷ [])))
      from_exif = next_dirs Main (Exif ∷ Interop ∷ Gps ∷ Thumb ∷ []) dirs_inside

      from_interop : AreInside P.length (at_places l (dir_contents (Interop ∷ Gps ∷ Thumb ∷ [])))
      from_interop = next_dirs Exif (Interop ∷ Gps ∷ Thumb ∷ []) from_exif

      from_gps : AreInside P.length (at_places l (dir_contents (Gps ∷ Thumb ∷ [])))
      from_gps = next_dirs Interop (Gps ∷ Thumb ∷ []) from_interop

      dir_inside : (d : Dir) → AreInside P.length (dir_pieces l m d)
      dir_inside Main = first_dir Main (Exif ∷ Interop ∷ Gps ∷ Thumb ∷ []) dirs_inside
      dir_inside Exif = first_dir Exif (Interop ∷ Gps ∷ Thumb ∷ []) from_exif
      dir_inside Interop = first_dir Interop (Gps ∷ Thumb ∷ []) from_interop
      dir_inside Gps = first_dir Gps (Thumb ∷ []) from_gps
      dir_inside Thumb = first_dir Thumb [] (next_dirs Gps (Thumb ∷ []) from_gps)

      pub table_inside : (d : Dir) (xs : List (ℕ × Item)) → items m d ≡ Some xs
          → place P (Table d) + length (table_bytes P o f m d xs) ≤ P.length
      table_inside d xs e = (subst (AreInside P.length) (dir_some d xs e) (dir_inside d)).0

      pub values_inside : (d : Dir) (xs : List (ℕ × Item)) → items m d ≡ Some xs → AreInside P.length (value_pieces l d xs)
      values_inside d xs e = (subst (AreInside P.length) (dir_some d xs e) (dir_inside d)).1

      pub few_entries : (d : Dir) (xs : List (ℕ × Item)) → items m d ≡ Some xs → length xs < 2 ^ 16
      few_entries d xs e = few_items d xs (subst (λ x. IfSome x (Good d)) e (good_items m fits d))

      -- ---- the thumbnail

      module _ (t : Thumbnail) (is : m.thumb ≡ Some t) where
        both_inside : AreInside P.length (at_places l (jpeg_contents t.jpeg ++ all_strip_contents t.strips))
        unfolding thumb_contents
        both_inside = subst (λ x. AreInside P.length (at_places l (thumb_contents x))) is thumb_inside

        cut_parts : at_places l (jpeg_contents t.jpeg ++ all_strip_contents t.strips) ≡ at_places l (jpeg_contents t.jpeg) ++ at_places l
            (all_strip_contents t.strips)
        cut_parts = map-append (λ c. (place P c.0, c.1)) (jpeg_contents t.jpeg) (all_strip_contents t.strips)

        pub jpeg_inside : AreInside P.length (at_places l (jpeg_contents t.jpeg))
        jpeg_inside =
            each_left (λ y. y.0 + length y.1 ≤ P.length) (at_places l (jpeg_contents t.jpeg)) (at_places l (all_strip_contents t.strips))
            (subst (AreInside P.length) cut_parts both_inside)

        pub strips_inside : AreInside P.length (at_places l (all_strip_contents t.strips))
        strips_inside =
            each_right (λ y. y.0 + length y.1 ≤ P.length) (at_places l (jpeg_contents t.jpeg)) (at_places l (all_strip_contents t.strips))
            (subst (AreInside P.length) cut_parts both_inside)

      -- ---- all of it

      pub all_laid : (a b c e : List ℕ) → a ≡ replicate P.length f → length b ≡ length a → length c ≡ length a →
          PutsOver a b (at_places l (thumb_contents m.thumb)) → PutsOver b c (at_places l (dir_contents dirs))
          → PutsOver c e ((0, header P o f) ∷ []) →
          e ≡ laid m P o f
      unfolding laid
      all_laid a b c e ia lb lc pt pd ph =
          let n : length a ≡ P.length = ap (λ (x : List ℕ). length x) ia ∙ length-replicate P.length f in
          let whole =
          puts_more a c e ((0, header P o f) ∷ []) (at_places l (dir_contents dirs)
          ++ at_places l (thumb_contents m.thumb)) lc (puts_more a b c (at_places l (dir_contents dirs))
          (at_places l (thumb_contents m.thumb)) lb pt pd) ph in
          let start : a ≡ made (length a) f [] = ia ∙ none_made P.length f ∙ ap (λ k. made k f []) (sym n) in
          whole f [] start
          ∙ ap₂ (λ k ps. made k f ps) n (append-nil ((0, header P o f) ∷ (at_places l (dir_contents dirs) ++ at_places l
          (thumb_contents m.thumb))) ∙ sym pieces_split)

pub parts_over : (l : Layout) (a b c : List ℕ) (t : Thumbnail) → length b ≡ length a
    → PutsOver a b (at_places l (all_strip_contents t.strips)) → PutsOver b c (at_places l (jpeg_contents t.jpeg))
    → PutsOver a c (at_places l (thumb_contents (Some t)))
unfolding thumb_contents
parts_over l a b c t n p q =
    subst (PutsOver a c) (sym (map-append (λ c. (place (plan_of_layout l) c.0, c.1)) (jpeg_contents t.jpeg) (all_strip_contents t.strips)))
    (puts_more a b c _ _ n p q)

module _ (l : Layout) (a b : List ℕ) where
  -- one such value
  module _ (d : Dir) (x : ℕ × Item) (big : 4 < item_size x.1) (at : ℕ) (y : List ℕ) (here : at ≡ place (plan_of_layout l) (Placed d x.0))
      (is : y ≡ item_bytes (plan_of_layout l) l.order l.filler x.1) where
    pub value_over : PutsOver a b ((at, y) ∷ []) → PutsOver a b (value_pieces l d (x ∷ []))
    value_over p = subst (PutsOver a b) (ap₂ (λ n z. (n, z) ∷ []) here is ∙ sym (value_placed l d x big)) p

    pub value_space : AreInside (length a) (value_pieces l d (x ∷ [])) → at + length y ≤ length a
    value_space h = (subst (AreInside (length a)) (sym (ap₂ (λ n z. (n, z) ∷ []) here is ∙ sym (value_placed l d x big))) h).0

  pub value_none : (d : Dir) (x : ℕ × Item) → item_size x.1 ≤ 4 → PutsOver a a (value_pieces l d (x ∷ []))
  value_none d x h = subst (PutsOver a a) (sym (value_here l d x h)) (puts_none a)

  pub one_as : (x z : ℕ) (y w : List ℕ) → x ≡ z → y ≡ w → PutsOver a b ((x, y) ∷ []) → PutsOver a b ((z, w) ∷ [])
  one_as x z y w e q p = subst (PutsOver a b) (ap₂ (λ n v. (n, v) ∷ []) e q) p

  pub no_thumb : (t : Option Thumbnail) → t ≡ None → PutsOver a a (at_places l (thumb_contents t))
  unfolding thumb_contents
  no_thumb t e = subst (λ t. PutsOver a a (at_places l (thumb_contents t))) (sym e) (puts_none a)

-- a property of a successful call
pub on_ok : {A E : Type 0} (r : Result A E) (P Q : Type 0) → (P → Q) → OnOk r P → OnOk r Q
on_ok (Ok x) P Q f p = f p
on_ok (Err e) P Q f p = p

-- a directory's table, written over its values
pub entries_over : (l : Layout) (d : Dir) (xs : List (ℕ × Item)) (a b c : List ℕ) → length b ≡ length a
    → PutsOver a b (value_pieces l d xs) → PutsOver b c ((place (plan_of_layout l) (Table d), table_in l d xs) ∷ [])
    → PutsOver a c ((place (plan_of_layout l) (Table d), table_in l d xs) ∷ value_pieces l d xs)
entries_over l d xs a b c n p q =
    puts_more a b c ((place (plan_of_layout l) (Table d), table_in l d xs) ∷ []) (value_pieces l d xs) n p q

pub dir_over : (l : Layout) (d : Dir) (xs : List (ℕ × Item)) (a b : List ℕ) → items (meaning_of_layout l) d ≡ Some xs
    → PutsOver a b ((place (plan_of_layout l) (Table d), table_in l d xs) ∷ value_pieces l d xs) → PutsOver a b (dir_pieces l (meaning_of_layout l) d)
dir_over l d xs a b e p = subst (PutsOver a b) (sym (dir_some l (meaning_of_layout l) d xs e)) p
