-- The thumbnail's bytes as they are written.
use Rattle.std.proofs.Common.{◌≡◌, ℕ, ◌+◌, Some, List, [], ◌∷◌, ◌++◌, flat_map, replicate, append-nil, refl, sym, ap, ◌∙◌}
use Rattle.std.proofs.lemmas.List.Concat.{flat_map-append}
use Rattle.px_meaning.specs.Tree.{Thumbnail}
use Rattle.px_meaning.specs.calls.Strips.{KeepsEven}
use Rattle.px_layout.specs.declared.chunks.Chunk.{Chunk}
use Rattle.px_layout.specs.Laid.{jpeg_contents, strip_contents, all_strip_contents, thumb_contents}
use Rattle.px_layout.specs.Normal.{padded}

abbrev pub padded_content : Chunk × List ℕ → List ℕ
padded_content c = padded c.1

-- an even number of bytes has no padding
pub padded_even : KeepsEven padded
padded_even x p = ap (λ (n : ℕ). x ++ replicate n 0) p ∙ append-nil x

-- only the strips, whatever their numbers
pub strips_padded : (n : ℕ) (xs : List (List ℕ)) → flat_map padded xs ≡ flat_map (λ c. padded c.1) (strip_contents n xs)
strips_padded n [] = refl
strips_padded n (x ∷ xs) = ap (λ y. padded x ++ y) (strips_padded (n + 1) xs)

-- the JPEG, then the strips
pub parts_padded : (t : Thumbnail) → flat_map padded_content (jpeg_contents t.jpeg) ++ flat_map padded_content
    (all_strip_contents t.strips) ≡ flat_map padded_content (thumb_contents (Some t))
unfolding thumb_contents
parts_padded t = sym (flat_map-append padded_content (jpeg_contents t.jpeg) (all_strip_contents t.strips))
