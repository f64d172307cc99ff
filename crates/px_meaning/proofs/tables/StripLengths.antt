-- The lengths of the strips that a block names.
use Rattle.std.proofs.Common.{◌≡◌, ℕ, Some, List, [], ◌∷◌, length, map, refl, sym, ap, ap₂, ◌∙◌, subst, arith}
use Rattle.std.specs.List.{AllByRecursion}
use Rattle.std.proofs.lemmas.List.{length-map}
use Rattle.px_bytes.specs.lemmas.PartLaws.{length_part}
use Rattle.px_field.specs.declared.Form.TheVariants as form
use Rattle.px_field.specs.declared.Kind.{Kind}
use Rattle.px_field.specs.declared.Kind.TheVariants as kind
use Rattle.px_field.specs.declared.Element.{Element}
use Rattle.px_field.specs.declared.Element.TheVariants as element
use Rattle.px_field.specs.Values.{IsOf, IsValue, form_in}
use Rattle.px_meaning.specs.declared.strip_lists.StripLists.{StripLists}
use Rattle.px_meaning.specs.Thumbnail.{whole_number, ranges_of, bytes_of, IsInside}
use Rattle.px_meaning.specs.calls.Strips.{named_strips, AreNamed, longs}

abbrev size : List ℕ → ℕ
size x = length x

each_long : (es : List Element) → AllByRecursion (IsOf form.Long) es → map element.Long (map whole_number es) ≡ es
each_long [] h = refl
each_long (element.Long n ∷ es) h = ap (λ (l : List Element). element.Long n ∷ l) (each_long es h.1)
each_long (_ ∷ es) h = absurd h.0

each_size : (b xs ns : List ℕ) → length xs ≡ length ns → AllByRecursion (IsInside b) (ranges_of xs ns)
    → map size (map (bytes_of b) (ranges_of xs ns)) ≡ ns
each_size b [] [] e h = refl
each_size b [] (n ∷ ns) e h = absurd (omega arith)
each_size b (x ∷ xs) [] e h = absurd (omega arith)
each_size b (x ∷ xs) (n ∷ ns) e h = ap₂ (λ (m : ℕ) (ms : List ℕ). m ∷ ms) (length_part b x n h.0) (each_size b xs ns (omega arith) h.1)

-- the list of lengths has the length of each strip
named_sizes : (l : StripLists) → AreNamed l → map whole_number l.sizes.elements ≡ map size (named_strips (Some l))
named_sizes l a =
    let xs = map whole_number l.starts.elements in
    let ns = map whole_number l.sizes.elements in
    sym (each_size l.block.now xs ns (length-map l.starts.elements whole_number ∙ a.same ∙ sym (length-map l.sizes.elements whole_number))
    a.inside)

-- so if it is of LONGs, it is the value of these lengths
pub named_longs : (l : StripLists) → AreNamed l → l.sizes.kind ≡ kind.Of form.Long → IsValue l.sizes
    → l.sizes ≡ longs (map size (named_strips (Some l)))
named_longs l a k h =
    let es = l.sizes.elements in
    let all = subst (λ (x : Kind). AllByRecursion (IsOf (form_in x)) es) k h in
    ap₂ (λ (x : Kind) (ys : List Element). record { kind = x; elements = ys }) k
    (sym (each_long es all) ∙ ap (map element.Long) (named_sizes l a))
