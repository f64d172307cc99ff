-- The owners of bytes, each with its offset, make up the footprint.
use Rattle.std.proofs.Common.{◌≡◌, ℕ, ◌+◌, Option, Some, None, option_map, List, [], ◌∷◌, ◌++◌, map, filter_map, flat_map, refl, ◌∙◌, ap}
use Rattle.std.proofs.Common.{ap₂}
use Rattle.std.specs.Prelude.{option_to_list}
use Rattle.std.specs.List.{cons_option}
use Rattle.std.proofs.lemmas.List.{map-append}
use Rattle.px_bytes.specs.declared.Order.{Order}
use Rattle.px_bytes.specs.Range.{Range, range}
use Rattle.px_meaning.specs.declared.Dir.{Dir}
use Rattle.px_meaning.specs.declared.Dir.TheVariants.{Thumb}
use Rattle.px_meaning.specs.Roles.{jpeg_offset_tag, strip_offsets_tag}
use Rattle.px_meaning.specs.Entry.{Entry}
use Rattle.px_meaning.specs.Directory.{dirs, entries_at, dir_at}
use Rattle.px_meaning.specs.Thumbnail.{jpeg_range, strip_ranges}
use Rattle.px_meaning.specs.Footprint.{listed, placed_range, table_range, dir_ranges, ranges_at, thumb_ranges, footprint}
use Rattle.px_tree.specs.Checks.{place_with}
use Rattle.px_tree.specs.Faults.{value_owners, dir_owners, owners_at, thumb_owners, owners}

-- the ranges of owners
abbrev pub ranges : List (ℕ × Range) → List Range
ranges xs = map (λ x. x.1) xs

ranges_append : (xs ys : List (ℕ × Range)) → ranges (xs ++ ys) ≡ ranges xs ++ ranges ys
ranges_append xs ys = map-append (λ x. x.1) xs ys

-- ranges of one owner's offset
pub ranges_placed : (p : ℕ) (rs : List Range) → ranges (map (λ r. (p, r)) rs) ≡ rs
ranges_placed p [] = refl
ranges_placed p (r ∷ rs) = ap (λ zs. r ∷ zs) (ranges_placed p rs)

ranges_cons : (p : ℕ) (r : Option Range) (xs : List (ℕ × Range)) (rs : List Range) → ranges xs ≡ rs
    → ranges (cons_option (option_map (λ r. (p, r)) r) xs) ≡ cons_option r rs
ranges_cons p None xs rs e = e
ranges_cons p (Some r) xs rs e = ap (λ zs. r ∷ zs) e

pub ranges_values : (o : Order) (p : ℕ) (es : List Entry) → ranges (value_owners o p es) ≡ filter_map (placed_range o) es
ranges_values o p [] = refl
ranges_values o p (e ∷ es) =
    ranges_cons p (placed_range o e) (value_owners o (p + 12) es) (filter_map (placed_range o) es) (ranges_values o (p + 12) es)

module _ (b : List ℕ) (o : Order) where
  pub ranges_dir : (d : Dir) (a : ℕ) → ranges (dir_owners b o d a) ≡ dir_ranges b o a
  unfolding dir_owners dir_ranges
  ranges_dir d a = ap (λ zs. table_range b o a ∷ zs) (ranges_values o (a + 2) (entries_at b o a))

  ranges-listed : (f : ℕ → List (ℕ × Range)) (g : ℕ → List Range) (z : Option ℕ) → ((a : ℕ) → ranges (f a) ≡ g a)
      → ranges (listed (option_map f z)) ≡ listed (option_map g z)
  ranges-listed f g None h = refl
  ranges-listed f g (Some a) h = h a

  pub ranges_owners_at : (d : Dir) → ranges (owners_at b o d) ≡ ranges_at b o d
  ranges_owners_at d = ranges-listed (dir_owners b o d) (dir_ranges b o) (dir_at b o d) (ranges_dir d)

  pub ranges_dirs : (ds : List Dir) → ranges (flat_map (owners_at b o) ds) ≡ flat_map (ranges_at b o) ds
  ranges_dirs [] = refl
  ranges_dirs (d ∷ ds) =
      ranges_append (owners_at b o d) (flat_map (owners_at b o) ds) ∙ ap₂ (λ x y. x ++ y) (ranges_owners_at d) (ranges_dirs ds)

  pub ranges_thumb : (a : ℕ) → ranges (thumb_owners b o a) ≡ thumb_ranges b o a
  unfolding thumb_owners thumb_ranges
  ranges_thumb a =
      let es = entries_at b o a in
      let p = place_with jpeg_offset_tag (a + 2) es in
      let q = place_with strip_offsets_tag (a + 2) es in
      ranges_append (map (λ r. (p, r)) (option_to_list (jpeg_range o es))) (map (λ r. (q, r)) (listed (strip_ranges b o es)))
      ∙ ap₂ (λ x y. x ++ y) (ranges_placed p (option_to_list (jpeg_range o es))) (ranges_placed q (listed (strip_ranges b o es)))

-- The owners own the footprint.
pub owners_own : (b : List ℕ) (o : Order) → ranges (owners b o) ≡ footprint b o
unfolding owners footprint
owners_own b o =
    ap (λ zs. range 0 8 ∷ zs) (ranges_append (flat_map (owners_at b o) dirs) (listed (option_map (thumb_owners b o) (dir_at b o Thumb)))
    ∙ ap₂ (λ x y. x ++ y) (ranges_dirs b o dirs) (ranges-listed b o (thumb_owners b o) (thumb_ranges b o) (dir_at b o Thumb)
    (ranges_thumb b o)))
