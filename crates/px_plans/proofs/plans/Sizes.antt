-- How many bytes the pieces of a plan have.
use Rattle.std.proofs.Common.{◌≡◌, ℕ, zero, suc, ◌+◌, ◌<◌, ◌≤◌, Some, List, [], ◌∷◌, ◌++◌, flat_map, length, map, drop, slice_get, refl}
use Rattle.std.proofs.Common.{sym, ◌∙◌, ap, arith}
use Rattle.px_bytes.specs.lemmas.ApartLaws.{total, total_le}
use Rattle.px_meaning.specs.declared.Dir.{Dir}
use Rattle.px_meaning.specs.declared.Dir.TheVariants.{Main, Exif, Interop, Gps, Thumb}
use Rattle.px_meaning.specs.Tree.{Meaning}
use Rattle.px_meaning.specs.Directory.{dirs}
use Rattle.px_meaning.specs.Writable.{Item, item_size, items, IsWritable}
use Rattle.px_layout.specs.declared.chunks.Chunk.{Chunk}
use Rattle.px_layout.specs.Plans.{Plan, plan_ranges, Legal}
use Rattle.px_layout.specs.Laid.{item_bytes, table_bytes, contents_of_dir, thumb_contents, header, laid_pieces}
use Rattle.px_layout.specs.lemmas.PlacementLaws.{piece_range}
use Rattle.px_layout.specs.lemmas.SizeLaws.{ranges_are}
use Rattle.px_plans.specs.declared.layout.Layout.{Layout}
use Rattle.px_plans.specs.calls.Building.{at_places, value_pieces, dir_pieces, pieces_size}
use Rattle.px_plans.specs.calls.Layouts.{plan_of_layout}
use Rattle.px_plans.proofs.plans.Built.{drop_get}
use Rattle.px_plans.proofs.plans.Pieces.{values_cons, value_placed, dir_some, dirs_cons, pieces_split}

size_append : (xs ys : List (ℕ × List ℕ)) → pieces_size (xs ++ ys) ≡ pieces_size xs + pieces_size ys
size_append [] ys = omega arith
size_append (x ∷ xs) ys = let e = size_append xs ys in omega arith

size_ranges : (xs : List (ℕ × List ℕ)) → total (map piece_range xs) ≡ pieces_size xs
size_ranges [] = refl
size_ranges (x ∷ xs) = let e = size_ranges xs in omega arith

module _ (l : Layout) where
  abbrev P : Plan
  P = plan_of_layout l

  -- ---- values that have an offset

  module _ (d : Dir) where
    size_cons : (x : ℕ × Item) (xs : List (ℕ × Item)) → pieces_size (value_pieces l d (x ∷ xs)) ≡ pieces_size (value_pieces l d (x ∷ []))
        + pieces_size (value_pieces l d xs)
    size_cons x xs = ap pieces_size (values_cons l d x xs) ∙ size_append (value_pieces l d (x ∷ [])) (value_pieces l d xs)

    pub size_next : (xs : List (ℕ × Item)) (j k : ℕ) (x : ℕ × Item) → k ≡ j + 1 → slice_get xs j ≡ Some x
        → pieces_size (value_pieces l d (drop j xs)) ≡ pieces_size (value_pieces l d (x ∷ [])) + pieces_size (value_pieces l d (drop k xs))
    size_next xs j k x e q = ap (λ ys. pieces_size (value_pieces l d ys)) (drop_get xs j k x e q) ∙ size_cons x (drop k xs)

    pub size_rest : (j : ℕ) (xs : List (ℕ × Item)) → pieces_size (value_pieces l d (drop j xs)) ≤ pieces_size (value_pieces l d xs)
    size_rest zero xs = omega arith
    size_rest (suc j) [] = omega arith
    size_rest (suc j) (x ∷ xs) = let rest = size_rest j xs in let all = size_cons x xs in omega arith

    pub size_placed : (x : ℕ × Item) → 4 < item_size x.1
        → pieces_size (value_pieces l d (x ∷ [])) ≡ length (item_bytes P l.order l.filler x.1)
    size_placed x big = let e = ap pieces_size (value_placed l d x big) in omega arith

  -- ---- directories

  module _ (m : Meaning) where
    pub size_dir : (d : Dir) (xs : List (ℕ × Item)) → items m d ≡ Some xs
        → pieces_size (dir_pieces l m d) ≡ length (table_bytes P l.order l.filler m d xs) + pieces_size (value_pieces l d xs)
    size_dir d xs e = ap pieces_size (dir_some l m d xs e)

    abbrev dir_contents : List Dir → List (Chunk × List ℕ)
    dir_contents ds = flat_map (λ d. contents_of_dir P l.order l.filler m d (items m d)) ds

    size_first : (d : Dir) (ds : List Dir) → pieces_size (at_places l (dir_contents (d ∷ ds)))
        ≡ pieces_size (dir_pieces l m d) + pieces_size (at_places l (dir_contents ds))
    size_first d ds = ap pieces_size (dirs_cons l m d ds) ∙ size_append (dir_pieces l m d) (at_places l (dir_contents ds))

    pub size_dirs : pieces_size (at_places l (dir_contents dirs)) ≡ pieces_size (dir_pieces l m Main) + pieces_size (dir_pieces l m Exif)
        + pieces_size (dir_pieces l m Interop) + pieces_size (dir_pieces l m Gps) + pieces_size (dir_pieces l m Thumb)
    size_dirs =
        let a = size_first Main (Exif ∷ Interop ∷ Gps ∷ Thumb ∷ []) in
        let b = size_first Exif (Interop ∷ Gps ∷ Thumb ∷ []) in
        let c = size_first Interop (Gps ∷ Thumb ∷ []) in
        let d = size_first Gps (Thumb ∷ []) in
        let e = size_first Thumb [] in
        omega arith

    -- the pieces of a legal plan have no more bytes than its block, because no two share one
    pub size_within : IsWritable m → Legal m P → length (header P l.order l.filler) + pieces_size (at_places l (dir_contents dirs)) ≤
        P.length
    size_within fits legal =
        let all = total_le P.length (plan_ranges m P) legal.apart legal.inside in
        let same = ap total (sym (ranges_are P l.order l.filler m fits)) ∙ size_ranges (laid_pieces P l.order l.filler m)
        ∙ ap pieces_size (pieces_split l m fits legal) in
        let parts = size_append (at_places l (dir_contents dirs)) (at_places l (thumb_contents m.thumb)) in
        omega (arith, all, same, parts)
