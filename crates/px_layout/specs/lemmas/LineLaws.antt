-- The normal form is the block that its plan lays out, and the plan is legal.
use Rattle.std.proofs.Common.{◌≡◌, ℕ, zero, suc, ◌+◌, ◌-◌, ◌%◌, ◌<◌, ◌≤◌, ◌==◌, nat_lt, nat_le, inl, inr, true, false, ◌&&◌, Some}
use Rattle.std.proofs.Common.{unwrap_or, List, [], ◌∷◌, ◌++◌, map, flat_map, length, get_or, slice_index, replicate, refl, sym, ◌∙◌, ap}
use Rattle.std.proofs.Common.{ap₂, subst, arith, eq-eqb, eqb-true, ltb-true, lt-ltb, le-leb}
use Rattle.std.specs.Prelude.{Contains, ◌↔◌, IsSome}
use Rattle.std.specs.List.{AllByRecursion, range_with_len}
use Rattle.std.proofs.lemmas.Bool.{cond-true, cond-false, cases_Bool, cases_lt, and_parts, and_from, false_from_ne_true, leb-true}
use Rattle.std.proofs.lemmas.List.{length-append, length-replicate, get_or_append_left, get_or-append_right, get_or-replicate, same_lists}
use Rattle.px_bytes.specs.Parts.{limit}
use Rattle.px_bytes.specs.declared.Order.TheVariants.{Most}
use Rattle.px_bytes.specs.Range.{Range, range, IsIn, Apart, AllApart}
use Rattle.px_bytes.specs.lemmas.EachLaws.{map_each, map_map}
use Rattle.px_meaning.specs.declared.Dir.{Dir}
use Rattle.px_meaning.specs.declared.Dir.TheVariants.{Main, Exif, Interop, Gps, Thumb}
use Rattle.px_meaning.specs.Tree.{Meaning}
use Rattle.px_meaning.specs.Entry.{Rising}
use Rattle.px_meaning.specs.Writable.{IsWritable}
use Rattle.px_meaning.specs.Roles.{dir_number}
use Rattle.px_layout.specs.declared.chunks.Chunk.{Chunk}
use Rattle.px_layout.specs.declared.chunks.Chunk.TheVariants.{Table, Placed, Jpeg, Strip}
use Rattle.px_layout.specs.Chunks.{chunks, same_chunk}
use Rattle.px_layout.specs.Plans.{Plan, place, Legal, plan_ranges}
use Rattle.px_layout.specs.Laid.{contents, header, laid_pieces, byte_at, laid}
use Rattle.px_layout.specs.Normal.{even, running, padded_size, normal_plan, padded, normal_exif}
use Rattle.px_layout.specs.lemmas.PlacementLaws.{piece_range, length_mapped, mapped_at}
use Rattle.px_layout.specs.lemmas.SizeLaws.{contents_sized, length_header}
use Rattle.px_layout.specs.lemmas.RankLaws.{chunk_rank, rank, chunks_rise}

-- ---- the same chunk

same_dir : (d e : Dir) → dir_number d ≡ dir_number e → d ≡ e
same_dir Main Main h = refl
same_dir Exif Exif h = refl
same_dir Interop Interop h = refl
same_dir Gps Gps h = refl
same_dir Thumb Thumb h = refl
same_dir _ _ h = absurd (omega arith)

pub same_chunk_true : (c e : Chunk) → same_chunk c e ≡ true → c ≡ e
same_chunk_true (Table d) (Table e) h = ap (λ x. Table x) (same_dir d e (eqb-true (dir_number d) (dir_number e) h))
same_chunk_true (Placed d t) (Placed e u) h = let p = and_parts (dir_number d == dir_number e) (t == u) h in
    ap₂ (λ x y. Placed x y) (same_dir d e (eqb-true (dir_number d) (dir_number e) p.0)) (eqb-true t u p.1)
same_chunk_true Jpeg Jpeg h = refl
same_chunk_true (Strip i) (Strip j) h = ap (λ x. Strip x) (eqb-true i j h)
same_chunk_true _ _ h = cc

pub same_chunk_self : (c : Chunk) → same_chunk c c ≡ true
same_chunk_self (Table d) = eq-eqb (dir_number d) (dir_number d) refl
same_chunk_self (Placed d t) = and_from _ _ (eq-eqb (dir_number d) (dir_number d) refl) (eq-eqb t t refl)
same_chunk_self Jpeg = refl
same_chunk_self (Strip i) = eq-eqb i i refl

pub other_chunk : (c e : Chunk) → chunk_rank c < chunk_rank e → same_chunk c e ≡ false
other_chunk c e l =
    false_from_ne_true (same_chunk c e) (λ h. let q : chunk_rank c ≡ chunk_rank e = ap chunk_rank (same_chunk_true c e h) in absurd
    (omega arith))

-- ---- running offsets

-- pieces one after the other, each padded
abbrev pub lined : {X : Type 0} → (X → ℕ) → ℕ → List X → List (ℕ × X)
lined size x [] = []
lined size x (c ∷ cs) = (x, c) ∷ lined size (x + even (size c)) cs

abbrev found : ℕ → List (Chunk × ℕ) → Chunk → ℕ
found x cs c = unwrap_or (running x cs c) 0

-- each chunk of a list without repeats is found at its offset
module _ {X : Type 0} (name : X → Chunk) (size : X → ℕ) where
  abbrev named : List X → List (Chunk × ℕ)
  named cs = map (λ c. (name c, size c)) cs

  -- an element, at the offset of its chunk among those of a list that begins at x
  abbrev spot : ℕ → List (Chunk × ℕ) → X → ℕ × X
  spot x ns e = (found x ns (name e), e)

  each_after : (x : ℕ) (c : X) (cs es : List X) → AllByRecursion (λ u. chunk_rank (name c) < u) (map (λ c. chunk_rank (name c)) es) →
      AllByRecursion (λ e. spot x ((name c, size c) ∷ named cs) e ≡ spot (x + even (size c)) (named cs) e) es
  each_after x c cs [] h = tt
  each_after x c cs (e ∷ es) h = (
    ap (λ o. (unwrap_or o 0, e)) (cond-false (same_chunk (name c) (name e)) (Some x) (running (x + even (size c)) (named cs) (name e))
        (other_chunk (name c) (name e) h.0)),
    each_after x c cs es h.1,
  )

  found_lined : (x : ℕ) (cs : List X) → Rising (map (λ c. chunk_rank (name c)) cs) → map (spot x (named cs)) cs ≡ lined size x cs
  found_lined x [] r = refl
  found_lined x (c ∷ cs) r = ap₂ (λ y ys. y ∷ ys)
      (ap (λ o. (unwrap_or o 0, c)) (cond-true (same_chunk (name c) (name c)) (Some x) (running (x + even (size c)) (named cs) (name c))
      (same_chunk_self (name c))))
      (map_each (spot x ((name c, size c) ∷ named cs)) (spot (x + even (size c)) (named cs)) cs (each_after x c cs cs r.0)
      ∙ found_lined (x + even (size c)) cs r.1)

-- ---- ranges in a line

abbrev ranged : {X : Type 0} → (X → ℕ) → ℕ × X → Range
ranged size y = range y.0 (size y.1)

module _ {X : Type 0} (size : X → ℕ) where
  starts_from : (k x : ℕ) (cs : List X) → k ≤ x → AllByRecursion (λ r. k ≤ r.start) (map (ranged size) (lined size x cs))
  starts_from k x [] l = tt
  starts_from k x (c ∷ cs) l = (l, starts_from k (x + even (size c)) cs (omega arith))

  apart_from : (r : Range) (k : ℕ) (rs : List Range) → r.start + r.size ≤ k → AllByRecursion (λ s. k ≤ s.start) rs
      → AllByRecursion (Apart r) rs
  apart_from r k [] l h = tt
  apart_from r k (s ∷ rs) l h = (λ p i j. let q = h.0 in let a = i.1 in let c = j.0 in absurd (omega arith), apart_from r k rs l h.1)

  lined_apart : (x : ℕ) (cs : List X) → AllApart (map (ranged size) (lined size x cs))
  lined_apart x [] = tt
  lined_apart x (c ∷ cs) = (
    apart_from (range x (size c)) (x + even (size c)) _ (omega arith) (starts_from (x + even (size c)) (x + even (size c)) cs
        (omega arith)),
    lined_apart (x + even (size c)) cs,
  )

  abbrev total_even : List X → ℕ
  total_even [] = 0
  total_even (c ∷ cs) = even (size c) + total_even cs

  lined_inside : (n x : ℕ) (cs : List X) → x + total_even cs ≤ n
      → AllByRecursion (λ r. r.start + r.size ≤ n) (map (ranged size) (lined size x cs))
  lined_inside n x [] h = tt
  lined_inside n x (c ∷ cs) h = (omega arith, lined_inside n (x + even (size c)) cs (omega arith))

-- ---- the bytes in a line

not_covered : (p : ℕ) (ys : List (ℕ × List ℕ)) → AllByRecursion (λ y. IsIn p (piece_range y) → ⊥) ys → byte_at 0 ys p ≡ 0
not_covered p [] h = refl
not_covered p (y ∷ ys) h = cond-false (nat_le y.0 p && nat_lt p (y.0 + length y.1)) (slice_index y.1 (p - y.0)) (byte_at 0 ys p)
    (false_from_ne_true _ (λ e. let q = and_parts (nat_le y.0 p) (nat_lt p (y.0 + length y.1)) e in h.0
    (leb-true _ _ q.0, ltb-true _ _ q.1)))
    ∙ not_covered p ys h.1

lined_after : (p x : ℕ) (cs : List (List ℕ)) → p < x → AllByRecursion (λ y. IsIn p (piece_range y) → ⊥) (lined (λ c. length c) x cs)
lined_after p x [] l = tt
lined_after p x (c ∷ cs) l = (λ i. let q = i.0 in omega arith, lined_after p (x + even (length c)) cs (omega arith))

length_padded : (c : List ℕ) → length (padded c) ≡ even (length c)
length_padded c = length-append c (replicate (length c % 2) 0) ∙ ap (λ n. length c + n) (length-replicate (length c % 2) 0)

pub length_line : (cs : List (List ℕ)) → length (flat_map padded cs) ≡ total_even (λ c. length c) cs
length_line [] = refl
length_line (c ∷ cs) = length-append (padded c) (flat_map padded cs) ∙ ap₂ (λ x y. x + y) (length_padded c) (length_line cs)

get_or_slice_index : (y : List ℕ) (k d : ℕ) → k < length y → get_or y k d ≡ slice_index y k
get_or_slice_index [] k d l = absurd (omega arith)
get_or_slice_index (z ∷ zs) zero d l = refl
get_or_slice_index (z ∷ zs) (suc k) d l = get_or_slice_index zs k d (omega arith)

padded_past : (x k d : ℕ) (c : List ℕ) (cs : List (List ℕ)) → k < length (padded c ++ flat_map padded cs) → length c ≤ k →
    ((j e : ℕ) → j < length (flat_map padded cs) → get_or (flat_map padded cs) j e ≡ byte_at 0
    (lined (λ c. length c) (x + even (length c)) cs) (x + even (length c) + j)) →
    get_or (padded c ++ flat_map padded cs) k d ≡ byte_at 0 (lined (λ c. length c) (x + even (length c)) cs) (x + k)
padded_past x k d c cs l a ih =
    let lp : length (padded c) ≡ even (length c) = length_padded c in
    let la : length (padded c ++ flat_map padded cs) ≡ length (padded c) + length (flat_map padded cs) =
    length-append (padded c) (flat_map padded cs) in
    elim (cases_lt k (length (padded c))) [
      | inl b ↦
          get_or_append_left (padded c) (flat_map padded cs) d k b
          ∙ get_or-append_right c (replicate (length c % 2) 0) (length c) k d refl a
          ∙ get_or-replicate (length c % 2) (k - length c) 0 d (omega arith)
          ∙ sym (not_covered (x + k) (lined (λ c. length c) (x + even (length c)) cs)
          (lined_after (x + k) (x + even (length c)) cs (omega arith)))
      | inr b ↦
          get_or-append_right (padded c) (flat_map padded cs) (length (padded c)) k d refl b
          ∙ ih (k - length (padded c)) d (omega arith)
          ∙ ap (byte_at 0 (lined (λ c. length c) (x + even (length c)) cs)) (omega arith)
    ]

-- the byte at an offset in a line of padded pieces is that of the piece that has it, or else 0
line_byte : (x k d : ℕ) (cs : List (List ℕ)) → k < length (flat_map padded cs)
    → get_or (flat_map padded cs) k d ≡ byte_at 0 (lined (λ c. length c) x cs) (x + k)
line_byte x k d [] l = absurd (omega arith)
line_byte x k d (c ∷ cs) l =
    let lp : length (padded c) ≡ even (length c) = length_padded c in
    let la : length (padded c ++ flat_map padded cs) ≡ length (padded c) + length (flat_map padded cs) =
    length-append (padded c) (flat_map padded cs) in
    elim (cases_lt k (length c)) [
      | inl a ↦
          get_or_append_left (padded c) (flat_map padded cs) d k (omega arith)
          ∙ get_or_append_left c (replicate (length c % 2) 0) d k a
          ∙ get_or_slice_index c k d a
          ∙ ap (λ j. slice_index c j) (omega arith)
          ∙ sym (cond-true (nat_le x (x + k) && nat_lt (x + k) (x + length c)) (slice_index c (x + k - x))
          (byte_at 0 (lined (λ c. length c) (x + even (length c)) cs) (x + k))
          (and_from _ _ (le-leb x (x + k) (omega arith)) (lt-ltb (x + k) (x + length c) (omega arith))))
      | inr a ↦ padded_past x k d c cs l a (λ j e m. line_byte (x + even (length c)) j e cs m)
          ∙ sym (cond-false (nat_le x (x + k) && nat_lt (x + k) (x + length c)) (slice_index c (x + k - x))
          (byte_at 0 (lined (λ c. length c) (x + even (length c)) cs) (x + k))
          (false_from_ne_true _ (λ e. let q = and_parts (nat_le x (x + k)) (nat_lt (x + k) (x + length c)) e in let z = ltb-true
          (x + k) (x + length c) q.1 in omega arith)))
    ]

-- ---- the normal form

module _ (m : Meaning) (f : IsWritable m) where
  abbrev plan : Plan
  plan = normal_plan m

  abbrev placed : List (Chunk × List ℕ)
  placed = contents plan Most 0 m

  abbrev bytes_size : Chunk × List ℕ → ℕ
  bytes_size c = length c.1

  names_are : map (λ (c : Chunk × List ℕ). (c.0, length c.1)) placed ≡ chunks m
  names_are = contents_sized plan Most 0 m f

  ranks : Rising (map (λ (c : Chunk × List ℕ). chunk_rank c.0) placed)
  ranks = subst Rising (sym (sym (map_map rank (λ (c : Chunk × List ℕ). (c.0, length c.1)) placed) ∙ ap (map rank) names_are))
      (chunks_rise m f)

  -- the pieces of the plan follow the header in a line
  abbrev bodies : List (List ℕ)
  bodies = map (λ (c : Chunk × List ℕ). c.1) placed

  lined-map : (x : ℕ) (cs : List (Chunk × List ℕ)) → map (λ (y : ℕ × (Chunk × List ℕ)). (y.0, y.1.1)) (lined bytes_size x cs) ≡ lined
      (λ (c : List ℕ). length c) x (map (λ c. c.1) cs)
  lined-map x [] = refl
  lined-map x (c ∷ cs) = ap (λ ys. (x, c.1) ∷ ys) (lined-map (x + even (length c.1)) cs)

  pieces_are : map (λ (c : Chunk × List ℕ). (place plan c.0, c.1)) placed ≡ lined (λ (c : List ℕ). length c) 8 bodies
  unfolding normal_plan
  pieces_are = ap (λ ns. map (λ (c : Chunk × List ℕ). (found 8 ns c.0, c.1)) placed) (sym names_are)
      ∙ sym (map_map (λ (y : ℕ × (Chunk × List ℕ)). (y.0, y.1.1)) (spot (λ (c : Chunk × List ℕ). c.0) bytes_size 8
      (named (λ (c : Chunk × List ℕ). c.0) bytes_size placed)) placed)
      ∙ ap (map (λ (y : ℕ × (Chunk × List ℕ)). (y.0, y.1.1))) (found_lined (λ (c : Chunk × List ℕ). c.0) bytes_size 8 placed ranks)
      ∙ lined-map 8 placed

  flat-map : (cs : List (Chunk × List ℕ)) → flat_map (λ (c : Chunk × List ℕ). padded c.1) cs ≡ flat_map padded (map (λ c. c.1) cs)
  flat-map [] = refl
  flat-map (c ∷ cs) = ap (λ x. padded c.1 ++ x) (flat-map cs)

  sizes-map : (cs : List (Chunk × List ℕ)) → total_even (λ (c : List ℕ). length c) (map (λ c. c.1) cs) ≡ padded_size
      (map (λ (c : Chunk × List ℕ). (c.0, length c.1)) cs)
  sizes-map [] = refl
  sizes-map (c ∷ cs) = ap (λ n. even (length c.1) + n) (sizes-map cs)

  abbrev line : List ℕ
  line = flat_map padded bodies

  abbrev head : List ℕ
  head = header plan Most 0

  normal_as : normal_exif m ≡ head ++ line
  unfolding normal_exif
  normal_as = ap (λ x. head ++ x) (flat-map placed)

  length_rest : length line ≡ padded_size (chunks m)
  length_rest = length_line bodies ∙ sizes-map placed ∙ ap padded_size names_are

  plan_length : plan.length ≡ 8 + padded_size (chunks m)
  unfolding normal_plan
  plan_length = refl

  pub length_normal : length (normal_exif m) ≡ plan.length
  length_normal =
      ap (λ x. length x) normal_as ∙ length-append head line ∙ ap₂ (λ x y. x + y) (length_header plan Most 0) length_rest ∙ sym plan_length

  abbrev pieces : List (ℕ × List ℕ)
  pieces = (0, head) ∷ lined (λ (c : List ℕ). length c) 8 bodies

  laid_as : laid m plan Most 0 ≡ map (byte_at 0 pieces) (range_with_len 0 plan.length)
  unfolding laid laid_pieces
  laid_as = ap (λ ps. map (byte_at 0 ((0, head) ∷ ps)) (range_with_len 0 plan.length)) pieces_are

  each_byte : (k d : ℕ) → k < length (head ++ line) → get_or (head ++ line) k d ≡ byte_at 0 pieces k
  each_byte k d l =
      let lh : length head ≡ 8 = length_header plan Most 0 in
      let la : length (head ++ line) ≡ length head + length line = length-append head line in
      elim (cases_lt k 8) [
        | inl a ↦ get_or_append_left head line d k (omega arith) ∙ get_or_slice_index head k d (omega arith)
            ∙ sym (cond-true (nat_le 0 k && nat_lt k (0 + length head)) (slice_index head (k - 0))
            (byte_at 0 (lined (λ (c : List ℕ). length c) 8 bodies) k) (and_from _ _ (le-leb 0 k (omega arith))
            (lt-ltb k (0 + length head) (omega arith)))
            ∙ ap (λ j. slice_index head j) (omega arith))
        | inr a ↦ get_or-append_right head line 8 k d lh a ∙ line_byte 8 (k - 8) d bodies (omega arith)
            ∙ ap (byte_at 0 (lined (λ (c : List ℕ). length c) 8 bodies)) (omega arith)
            ∙ sym (cond-false (nat_le 0 k && nat_lt k (0 + length head)) (slice_index head (k - 0))
            (byte_at 0 (lined (λ (c : List ℕ). length c) 8 bodies) k) (false_from_ne_true _
            (λ e. let q =
            and_parts (nat_le 0 k) (nat_lt k (0 + length head)) e in let z = ltb-true k (0 + length head) q.1 in omega arith)))
      ]

  -- The normal form is the block that its plan lays out.
  pub laid_in_line : normal_exif m ≡ laid m plan Most 0
  laid_in_line = normal_as ∙ same_lists (head ++ line) (map (byte_at 0 pieces) (range_with_len 0 plan.length))
      (ap (λ x. length x) (sym normal_as) ∙ length_normal ∙ sym (length_mapped (byte_at 0 pieces) plan.length))
      (λ k d l. each_byte k d l ∙ sym (mapped_at (byte_at 0 pieces) plan.length k d
      (let e = ap (λ x. length x) normal_as in let g = length_normal in omega arith)))
      ∙ sym laid_as

  -- ---- the plan is legal

  ranges_in_line : map (λ (c : Chunk × ℕ). range (place plan c.0) c.1) (chunks m) ≡ map (ranged (λ (c : Chunk × ℕ). c.1))
      (lined (λ (c : Chunk × ℕ). c.1) 8 (chunks m))
  unfolding normal_plan
  ranges_in_line = ap (λ ns. map (λ (c : Chunk × ℕ). range (found 8 ns c.0) c.1) (chunks m)) (sym (map-same (chunks m)))
      ∙ sym (map_map (ranged (λ (c : Chunk × ℕ). c.1)) (spot (λ (c : Chunk × ℕ). c.0) (λ c. c.1) 8
      (named (λ (c : Chunk × ℕ). c.0) (λ c. c.1) (chunks m))) (chunks m))
      ∙ ap (map (ranged (λ (c : Chunk × ℕ). c.1))) (found_lined (λ (c : Chunk × ℕ). c.0) (λ c. c.1) 8 (chunks m) (chunks_rise m f))
    where
      map-same : (cs : List (Chunk × ℕ)) → map (λ (c : Chunk × ℕ). (c.0, c.1)) cs ≡ cs
      map-same [] = refl
      map-same (c ∷ cs) = ap (λ x. c ∷ x) (map-same cs)

  padded_total : (cs : List (Chunk × ℕ)) → total_even (λ (c : Chunk × ℕ). c.1) cs ≡ padded_size cs
  padded_total [] = refl
  padded_total (c ∷ cs) = ap (λ n. even c.1 + n) (padded_total cs)

  module _ (c : Chunk) where
    forth : (x : ℕ) (cs : List (Chunk × ℕ)) → IsSome (running x cs c) → Contains (map (λ x. x.0) cs) c
    forth x [] h = cc
    forth x (y ∷ ys) h = elim (cases_Bool (same_chunk y.0 c)) [
      | inl q ↦ (0, omega arith, same_chunk_true y.0 c q)
      | inr q ↦ let r =
          forth (x + even y.1) ys (subst IsSome (cond-false (same_chunk y.0 c) (Some x) (running (x + even y.1) ys c) q) h) in
          (suc r.0, (let l = r.1 in omega arith), r.2)
    ]

    back : (x : ℕ) (cs : List (Chunk × ℕ)) (k : ℕ) → k < length (map (λ (x : Chunk × ℕ). x.0) cs)
        → get_or (map (λ (x : Chunk × ℕ). x.0) cs) k c ≡ c → IsSome (running x cs c)
    back x [] k l e = absurd (omega arith)
    back x (y ∷ ys) zero l e =
        subst IsSome (sym (cond-true (same_chunk y.0 c) (Some x) (running (x + even y.1) ys c)
        (subst (λ z. same_chunk y.0 z ≡ true) e (same_chunk_self y.0)))) refl
    back x (y ∷ ys) (suc k) l e = elim (cases_Bool (same_chunk y.0 c)) [
      | inl q ↦ subst IsSome (sym (cond-true (same_chunk y.0 c) (Some x) (running (x + even y.1) ys c) q)) refl
      | inr q ↦ subst IsSome (sym (cond-false (same_chunk y.0 c) (Some x) (running (x + even y.1) ys c) q))
          (back (x + even y.1) ys k (omega arith) e)
    ]

  all_there : (c : Chunk) → IsSome (plan.offset c) ↔ Contains (map (λ x. x.0) (chunks m)) c
  unfolding normal_plan
  all_there c = (forth c 8 (chunks m), λ h. back c 8 (chunks m) h.0 h.1 h.2)

  pub legal_in_line : length (normal_exif m) ≤ limit → Legal m plan
  unfolding plan_ranges
  legal_in_line l = record {
    exactly = all_there;
    least = let e = plan_length in omega arith;
    most = let e = length_normal in omega arith;
    inside = (
      let e =
          plan_length in omega arith,
      subst (AllByRecursion (λ r. r.start + r.size ≤ plan.length)) (sym ranges_in_line)
          (lined_inside (λ (c : Chunk × ℕ). c.1) plan.length 8 (chunks m) (let e = plan_length in let t = padded_total (chunks m) in omega
          arith)),
    );
    apart = (
      subst (AllByRecursion (Apart (range 0 8))) (sym ranges_in_line) (apart_from (λ (c : Chunk × ℕ). c.1) (range 0 8) 8 _ (omega arith)
          (starts_from (λ (c : Chunk × ℕ). c.1) 8 8 (chunks m) (omega arith))),
      subst AllApart (sym ranges_in_line) (lined_apart (λ (c : Chunk × ℕ). c.1) 8 (chunks m)),
    );
  }
