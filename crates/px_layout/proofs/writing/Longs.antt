-- The bytes of LONGs.
use Rattle.std.proofs.Common.{◌≡◌, ◌∙◌, ℕ, List, [], ◌∷◌, ◌++◌, map, flat_map, take, refl, ap}
use Rattle.std.proofs.lemmas.List.{take-map}
use Rattle.px_bytes.specs.declared.Order.{Order}
use Rattle.px_field.specs.declared.Element.TheVariants.{Long}
use Rattle.px_field.specs.Values.{encode, encoded}
use Rattle.px_meaning.specs.calls.Strips.{longs}
use Rattle.px_layout.specs.Laid.{long_bytes}

pub encode_longs : (o : Order) (ns : List ℕ) → flat_map (encode o) (map Long ns) ≡ flat_map (long_bytes o) ns
encode_longs o [] = refl
encode_longs o (n ∷ ns) = ap (λ (x : List ℕ). long_bytes o n ++ x) (encode_longs o ns)

pub encoded_longs : (o : Order) (ns : List ℕ) → encoded o (longs ns) ≡ flat_map (long_bytes o) ns
unfolding encoded
encoded_longs o ns = encode_longs o ns

-- the first n of them
pub encode_first : (o : Order) (n : ℕ) (ns : List ℕ) → flat_map (encode o) (take n (map Long ns)) ≡ flat_map (long_bytes o) (take n ns)
encode_first o n ns = ap (flat_map (encode o)) (take-map Long n ns) ∙ encode_longs o (take n ns)
