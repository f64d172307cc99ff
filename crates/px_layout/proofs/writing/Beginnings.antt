-- The byte offsets of the parts of a normal form, one after the other.
use Rattle.std.proofs.Common.{◌≡◌, ℕ, zero, suc, ◌+◌, Option, Some, List, [], ◌∷◌, length, map, drop, slice_get, get_or}
use Rattle.std.proofs.Common.{refl, ◌∙◌, ap, subst, arith}
use Rattle.px_meaning.specs.Tree.{Meaning}
use Rattle.px_meaning.specs.Writable.{Item, items, IsWritable}
use Rattle.px_meaning.specs.Entry.{table_size}
use Rattle.px_meaning.specs.declared.Dir.{Dir}
use Rattle.px_layout.specs.calls.Starting.{SomeIfWithinLimit}
use Rattle.px_layout.specs.Chunks.{chunks_of_dir, strip_chunks}
use Rattle.px_layout.specs.Normal.{even, padded_size, normal_plan, normal_exif}
use Rattle.px_layout.specs.lemmas.LineLaws.{length_normal}
use Rattle.px_layout.specs.lemmas.RunLaws.{value_size, values_size, values_padded, dir_end, strips_start, strips_part, strips_end}
use Rattle.px_layout.specs.lemmas.WalkLaws.{drop_here}

-- what the values from an entry on take
pub values_here : (xs : List (ℕ × Item)) (i : ℕ) (x : ℕ × Item) → slice_get xs i ≡ Some x
    → values_size (drop i xs) ≡ value_size x.1 + values_size (drop (i + 1) xs)
values_here xs i x e = ap values_size (drop_here xs i x e)

abbrev size : List ℕ → ℕ
size x = length x

-- a strip whose length is read
pub sized_read : (xs : List (List ℕ)) (i n : ℕ) → slice_get (map size xs) i ≡ Some n → slice_get xs i ≡ Some (get_or xs i [])
sized_read [] i n e = cc
sized_read (x ∷ xs) zero n e = refl
sized_read (x ∷ xs) (suc i) n e = sized_read xs i n e

pub sized_length : (xs : List (List ℕ)) (i n : ℕ) → slice_get (map size xs) i ≡ Some n → length (get_or xs i []) ≡ n
sized_length [] i n e = cc
sized_length (x ∷ xs) zero n e = cc
sized_length (x ∷ xs) (suc i) n e = sized_length xs i n e

pub strips_here : (xs : List (List ℕ)) (i n : ℕ) → slice_get (map size xs) i ≡ Some n
    → padded_size (strip_chunks i (drop i xs)) ≡ even n + padded_size (strip_chunks (i + 1) (drop (i + 1) xs))
strips_here xs i n e =
    ap (λ ys. padded_size (strip_chunks i ys)) (drop_here xs i (get_or xs i []) (sized_read xs i n e))
    ∙ ap (λ (m : ℕ). even m + padded_size (strip_chunks (i + 1) (drop (i + 1) xs))) (sized_length xs i n e)

-- the length of the form
pub form_end : (m : Meaning) → IsWritable m → length (normal_exif m) ≡ strips_start m + padded_size (strips_part m.thumb)
unfolding normal_plan
form_end m f = length_normal m f ∙ strips_end m

pub ends_as : (r : Option ℕ) (a b : ℕ) → a ≡ b → SomeIfWithinLimit r a → SomeIfWithinLimit r b
ends_as r a b e h = subst (SomeIfWithinLimit r) e h

-- the end of a directory that is there
pub dir_there : (m : Meaning) (d : Dir) (x : ℕ) (xs : List (ℕ × Item)) → items m d ≡ Some xs
    → dir_end x m d ≡ x + even (table_size (length xs)) + values_size xs
dir_there m d x xs e = let p = ap (λ y. x + padded_size (chunks_of_dir d y)) e in let v = values_padded d xs in omega arith
