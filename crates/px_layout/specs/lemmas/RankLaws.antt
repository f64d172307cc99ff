-- The chunks of a meaning are in a strict order, so each occurs once.
use Rattle.std.proofs.Common.{◌≡◌, ℕ, ◌+◌, ◌*◌, ◌^◌, ◌<◌, ◌≤◌, nat_lt, Option, Some, None, List, [], ◌∷◌, ◌++◌, map, filter_map, flat_map}
use Rattle.std.proofs.Common.{sym, subst, arith}
use Rattle.std.specs.Prelude.{IfSome}
use Rattle.std.specs.List.{AllByRecursion, cons_option}
use Rattle.std.proofs.lemmas.Bool.{cond_both}
use Rattle.std.proofs.lemmas.List.{map-append}
use Rattle.px_bytes.specs.lemmas.EachLaws.{each_map, each_append}
use Rattle.px_meaning.specs.declared.Dir.{Dir}
use Rattle.px_meaning.specs.declared.Dir.TheVariants.{Main, Exif, Interop, Gps, Thumb}
use Rattle.px_meaning.specs.Tree.{Meaning, Thumbnail}
use Rattle.px_meaning.specs.Entry.{Rising}
use Rattle.px_meaning.specs.Directory.{dirs}
use Rattle.px_meaning.specs.Writable.{Item, item_size, items, IsWritable}
use Rattle.px_meaning.specs.Roles.{dir_number}
use Rattle.px_layout.specs.declared.chunks.Chunk.{Chunk}
use Rattle.px_layout.specs.declared.chunks.Chunk.TheVariants.{Table, Placed, Jpeg, Strip}
use Rattle.px_layout.specs.Chunks.{placed_chunk, chunks_of_dir, jpeg_chunks, strip_chunks, all_strip_chunks, thumb_chunks, chunks}
use Rattle.px_layout.specs.lemmas.EntryLaws.{Good, good_items}

-- a directory's ranks: more than there are tags
abbrev pub span : ℕ
span = 131072

-- a number that rises along the chunks
abbrev pub chunk_rank : Chunk → ℕ
chunk_rank (Table d) = dir_number d * span
chunk_rank (Placed d t) = dir_number d * span + 1 + t
chunk_rank Jpeg = 5 * span
chunk_rank (Strip i) = 5 * span + 1 + i

abbrev pub rank : Chunk × ℕ → ℕ
rank c = chunk_rank c.0

pub rising_append : (k : ℕ) (xs ys : List ℕ) → AllByRecursion (λ t. t < k) xs → AllByRecursion (λ t. k ≤ t) ys → Rising xs → Rising ys
    → Rising (xs ++ ys)
rising_append k [] ys a b r s = s
rising_append k (x ∷ xs) ys a b r s = (
  each_append (λ u. x < u) xs ys r.0 (each_map (λ t. k ≤ t) (λ u. x < u) (λ u h. let q = a.0 in omega arith) ys b),
  rising_append k xs
      ys a.1 b r.1 s,
)

-- the ranks of chunks rise, and lie from lo up to hi
record Ranked (lo hi : ℕ) (cs : List (Chunk × ℕ)) : Type 0 where
  rising : Rising (map rank cs)
  above : AllByRecursion (λ t. lo ≤ t) (map rank cs)
  below : AllByRecursion (λ t. t < hi) (map rank cs)

ranked_append : (lo mid hi : ℕ) (xs ys : List (Chunk × ℕ)) → lo ≤ mid → mid ≤ hi → Ranked lo mid xs → Ranked mid hi ys
    → Ranked lo hi (xs ++ ys)
ranked_append lo mid hi xs ys l k a b = record {
  rising = subst Rising (sym e) (rising_append mid (map rank xs) (map rank ys) a.below b.above a.rising b.rising);
  above = subst (AllByRecursion (λ t. lo ≤ t)) (sym e) (each_append (λ t. lo ≤ t) (map rank xs) (map rank ys) a.above
      (each_map (λ t. mid ≤ t) (λ t. lo ≤ t) (λ t h. omega arith) (map rank ys) b.above));
  below = subst (AllByRecursion (λ t. t < hi)) (sym e) (each_append (λ t. t < hi) (map rank xs) (map rank ys)
      (each_map (λ t. t < mid) (λ t. t < hi) (λ t h. omega arith) (map rank xs) a.below) b.below);
}
  where
    e : map rank (xs ++ ys) ≡ map rank xs ++ map rank ys
    e = map-append rank xs ys

-- the values of a directory that have an offset
above_placed : (d : Dir) (t : ℕ) (xs : List (ℕ × Item)) → AllByRecursion (λ u. t < u) (map (λ i. i.0) xs)
    → AllByRecursion (λ u. dir_number d * span + 1 + t < u) (map rank (filter_map (placed_chunk d) xs))
unfolding placed_chunk
above_placed d t [] h = tt
above_placed d t (i ∷ xs) h =
    cond_both (nat_lt 4 (item_size i.1)) (Some (Placed d i.0, item_size i.1)) None
    (λ o. AllByRecursion (λ u. dir_number d * span + 1 + t < u) (map rank (cons_option o (filter_map (placed_chunk d) xs))))
    (λ _. (let q = h.0 in omega arith, above_placed d t xs h.1)) (λ _. above_placed d t xs h.1)

placed_below : (d : Dir) (xs : List (ℕ × Item)) → AllByRecursion (λ i. i.0 < 2 ^ 16) xs
    → AllByRecursion (λ u. u < dir_number d * span + span) (map rank (filter_map (placed_chunk d) xs))
unfolding placed_chunk
placed_below d [] h = tt
placed_below d (i ∷ xs) h =
    cond_both (nat_lt 4 (item_size i.1)) (Some (Placed d i.0, item_size i.1)) None
    (λ o. AllByRecursion (λ u. u < dir_number d * span + span) (map rank (cons_option o (filter_map (placed_chunk d) xs))))
    (λ _. (let q = h.0 in omega arith, placed_below d xs h.1)) (λ _. placed_below d xs h.1)

placed_after : (d : Dir) (xs : List (ℕ × Item)) → AllByRecursion (λ u. dir_number d * span < u) (map rank (filter_map (placed_chunk d) xs))
unfolding placed_chunk
placed_after d [] = tt
placed_after d (i ∷ xs) =
    cond_both (nat_lt 4 (item_size i.1)) (Some (Placed d i.0, item_size i.1)) None
    (λ o. AllByRecursion (λ u. dir_number d * span < u) (map rank (cons_option o (filter_map (placed_chunk d) xs))))
    (λ _. (omega arith, placed_after d xs)) (λ _. placed_after d xs)

placed_rising : (d : Dir) (xs : List (ℕ × Item)) → Rising (map (λ i. i.0) xs) → Rising (map rank (filter_map (placed_chunk d) xs))
unfolding placed_chunk
placed_rising d [] r = tt
placed_rising d (i ∷ xs) r =
    cond_both (nat_lt 4 (item_size i.1)) (Some (Placed d i.0, item_size i.1)) None
    (λ o. Rising (map rank (cons_option o (filter_map (placed_chunk d) xs))))
    (λ _. (above_placed d i.0 xs r.0, placed_rising d xs r.1)) (λ _. placed_rising d xs r.1)

ranked_dir : (d : Dir) (x : Option (List (ℕ × Item))) → IfSome x (Good d)
    → Ranked (dir_number d * span) (dir_number d * span + span) (chunks_of_dir d x)
ranked_dir d None g = record { rising = tt; above = tt; below = tt }
ranked_dir d (Some xs) g = record {
  rising = (placed_after d xs, placed_rising d xs g.rising);
  above = (
    omega arith,
    each_map (λ u. dir_number d * span < u) (λ u. dir_number d * span ≤ u) (λ u h. omega arith)
        (map rank (filter_map (placed_chunk d) xs)) (placed_after d xs),
  );
  below = (omega arith, placed_below d xs g.tags);
}

above_strips : (k n : ℕ) (s : List (List ℕ)) → k ≤ n → AllByRecursion (λ u. 5 * span + k < u) (map rank (strip_chunks n s))
above_strips k n [] l = tt
above_strips k n (x ∷ s) l = (omega arith, above_strips k (n + 1) s (omega arith))

rising_strips : (n : ℕ) (s : List (List ℕ)) → Rising (map rank (strip_chunks n s))
rising_strips n [] = tt
rising_strips n (x ∷ s) = (
  each_map (λ u. 5 * span + (n + 1) < u) (λ u. 5 * span + 1 + n < u) (λ u h. omega arith) (map rank (strip_chunks (n + 1) s))
      (above_strips (n + 1) (n + 1) s (omega arith)),
  rising_strips (n + 1) s,
)

above_thumb : (t : Option Thumbnail) → AllByRecursion (λ u. 5 * span ≤ u) (map rank (thumb_chunks t)) × Rising (map rank (thumb_chunks t))
unfolding thumb_chunks
above_thumb None = (tt, tt)
above_thumb (Some t) = parts t.jpeg t.strips
  where
    strips : (s : Option (List (List ℕ))) → AllByRecursion (λ u. 5 * span < u) (map rank (all_strip_chunks s)) × Rising
        (map rank (all_strip_chunks s))
    strips None = (tt, tt)
    strips (Some s) = (
      each_map (λ u. 5 * span + 0 < u) (λ u. 5 * span < u) (λ u h. omega arith) (map rank (strip_chunks 0 s))
          (above_strips 0 0 s (omega arith)),
      rising_strips 0 s,
    )

    parts : (j : Option (List ℕ)) (s : Option (List (List ℕ)))
        → AllByRecursion (λ u. 5 * span ≤ u) (map rank (jpeg_chunks j ++ all_strip_chunks s)) × Rising
        (map rank (jpeg_chunks j ++ all_strip_chunks s))
    parts None s =
        (each_map (λ u. 5 * span < u) (λ u. 5 * span ≤ u) (λ u h. omega arith) (map rank (all_strip_chunks s)) (strips s).0, (strips s).1)
    parts (Some x) s = (
      (omega arith, each_map (λ u. 5 * span < u) (λ u. 5 * span ≤ u) (λ u h. omega arith) (map rank (all_strip_chunks s)) (strips s).0),
      (strips s),
    )

pub chunks_rise : (m : Meaning) → IsWritable m → Rising (map rank (chunks m))
unfolding chunks
chunks_rise m f = subst Rising (sym (map-append rank (flat_map of dirs) (thumb_chunks m.thumb)))
    (rising_append (5 * span) (map rank (flat_map of dirs)) (map rank (thumb_chunks m.thumb)) all.below (above_thumb m.thumb).0 all.rising
    (above_thumb m.thumb).1)
  where
    of : Dir → List (Chunk × ℕ)
    of d = chunks_of_dir d (items m d)

    one : (d : Dir) → Ranked (dir_number d * span) (dir_number d * span + span) (of d)
    one d = ranked_dir d (items m d) (good_items m f d)

    all : Ranked 0 (5 * span) (flat_map of dirs)
    all = ranked_append 0 span (5 * span) (of Main) _ (omega arith) (omega arith) (one Main)
        (ranked_append span (2 * span) (5 * span) (of Exif) _ (omega arith) (omega arith) (one Exif)
        (ranked_append (2 * span) (3 * span) (5 * span) (of Interop) _ (omega arith) (omega arith) (one Interop)
        (ranked_append (3 * span) (4 * span) (5 * span) (of Gps) _ (omega arith) (omega arith) (one Gps)
        (ranked_append (4 * span) (5 * span) (5 * span) (of Thumb) [] (omega arith) (omega arith) (one Thumb)
        (record { rising = tt; above = tt; below = tt })))))
