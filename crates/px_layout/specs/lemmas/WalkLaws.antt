-- The chunks of a meaning, gathered one after the other.
use Rattle.std.proofs.Common.{◌≡◌, ℕ, suc, ◌+◌, ◌^◌, ◌<◌, ◌≤◌, Option, Some, None, List, [], ◌∷◌, ◌++◌, length, drop, filter_map, sym, ◌∙◌}
use Rattle.std.proofs.Common.{ap, ap₂, subst, arith, append_assoc, drop-cons}
use Rattle.std.specs.List.{slice_get, cons_option}
use Rattle.std.specs.Option.{option_to_list}
use Rattle.std.specs.Prelude.{IfSome}
use Rattle.std.proofs.lemmas.List.{append-nil, drop_all}
use Rattle.std.proofs.lemmas.Option.{slice_get_within, get_or_from_slice_get}
use Rattle.px_meaning.specs.declared.Dir.{Dir}
use Rattle.px_meaning.specs.declared.Dir.TheVariants.{Main, Exif, Interop, Gps, Thumb}
use Rattle.px_meaning.specs.Tree.{Meaning}
use Rattle.px_meaning.specs.Writable.{Item, items, IsWritable}
use Rattle.px_layout.specs.declared.chunks.Chunk.{Chunk}
use Rattle.px_layout.specs.declared.chunks.Chunk.TheVariants.{Strip}
use Rattle.px_layout.specs.Chunks.{chunks_of_dir, strip_chunks, thumb_chunks, chunks}
use Rattle.px_layout.specs.lemmas.EntryLaws.{few_items, good_items, Good}

-- the element at an index, and those after it
pub drop_here : {A : Type 0} (xs : List A) (i : ℕ) (x : A) → slice_get xs i ≡ Some x → drop i xs ≡ x ∷ drop (i + 1) xs
drop_here xs i x e =
    let k : suc i ≡ i + 1 = omega arith in
    drop-cons xs i x (slice_get_within xs i x e) ∙ ap₂ (λ y ys. y ∷ ys) (get_or_from_slice_get xs i x x e) (ap (λ j. drop j xs) k)

one_put : {A : Type 0} (o : Option A) (out rest : List A) → (out ++ option_to_list o) ++ rest ≡ out ++ cons_option o rest
one_put None out rest = append_assoc out [] rest
one_put (Some x) out rest = append_assoc out (x ∷ []) rest

-- one more value that has an offset
pub values_more : {X Y : Type 0} (h : X → Option Y) (xs : List X) (i : ℕ) (x : X) (out now : List Y) → slice_get xs i ≡ Some x
    → now ≡ out ++ option_to_list (h x) → now ++ filter_map h (drop (i + 1) xs) ≡ out ++ filter_map h (drop i xs)
values_more h xs i x out now e s =
    ap (λ ys. ys ++ filter_map h (drop (i + 1) xs)) s ∙ one_put (h x) out (filter_map h (drop (i + 1) xs))
    ∙ ap (λ ys. out ++ filter_map h ys) (sym (drop_here xs i x e))

-- one more strip
pub strips_more : (xs : List (List ℕ)) (i : ℕ) (x : List ℕ) (out now : List (Chunk × ℕ)) → slice_get xs i ≡ Some x
    → now ≡ out ++ (Strip i, length x) ∷ [] → now ++ strip_chunks (i + 1) (drop (i + 1) xs) ≡ out ++ strip_chunks i (drop i xs)
strips_more xs i x out now e s =
    ap (λ ys. ys ++ strip_chunks (i + 1) (drop (i + 1) xs)) s
    ∙ append_assoc out ((Strip i, length x) ∷ []) (strip_chunks (i + 1) (drop (i + 1) xs))
    ∙ ap (λ ys. out ++ strip_chunks i ys) (sym (drop_here xs i x e))

-- a directory has fewer than 65536 entries
pub few_there : (m : Meaning) (d : Dir) (xs : List (ℕ × Item)) → IsWritable m → items m d ≡ Some xs → length xs < 2 ^ 16
few_there m d xs f e = few_items d xs (subst (λ (o : Option (List (ℕ × Item))). IfSome o (Good d)) e (good_items m f d))

-- all of them
pub chunks_gathered : (m : Meaning) (a b c d e f : List (Chunk × ℕ)) → b ≡ a ++ chunks_of_dir Main (items m Main)
    → c ≡ b ++ chunks_of_dir Exif (items m Exif) → d ≡ c ++ chunks_of_dir Interop (items m Interop)
    → e ≡ d ++ chunks_of_dir Gps (items m Gps) → f ≡ e ++ chunks_of_dir Thumb (items m Thumb) → f ++ thumb_chunks m.thumb ≡ a ++ chunks m
unfolding chunks
chunks_gathered m a b c d e f eb ec ed ee ef =
    ap (λ x. x ++ thumb_chunks m.thumb) (ef ∙ ap (λ x. x ++ of Thumb) (ee ∙ ap (λ x. x ++ of Gps)
    (ed ∙ ap (λ x. x ++ of Interop) (ec ∙ ap (λ x. x ++ of Exif) eb))))
    ∙ line a (of Main) (of Exif) (of Interop) (of Gps) (of Thumb) (thumb_chunks m.thumb)
  where
    of : Dir → List (Chunk × ℕ)
    of x = chunks_of_dir x (items m x)

    line : (a p q r s t u : List (Chunk × ℕ))
        → (((((a ++ p) ++ q) ++ r) ++ s) ++ t) ++ u ≡ a ++ ((p ++ (q ++ (r ++ (s ++ (t ++ []))))) ++ u)
    line a p q r s t u = simp (append_assoc, append-nil)

-- at the end of a loop nothing is left
pub values_done : {X Y : Type 0} (h : X → Option Y) (xs : List X) (i : ℕ) (out all : List Y) → length xs ≤ i
    → out ++ filter_map h (drop i xs) ≡ all → out ≡ all
values_done h xs i out all l e = sym (append-nil out) ∙ ap (λ ys. out ++ filter_map h ys) (sym (drop_all i xs l)) ∙ e

pub strips_done : (xs : List (List ℕ)) (i : ℕ) (out all : List (Chunk × ℕ)) → length xs ≤ i → out ++ strip_chunks i (drop i xs) ≡ all
    → out ≡ all
strips_done xs i out all l e = sym (append-nil out) ∙ ap (λ ys. out ++ strip_chunks i ys) (sym (drop_all i xs l)) ∙ e
