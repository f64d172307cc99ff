-- Attributes are told apart by their keys.
use Rattle.std.proofs.Common.{◌≡◌, ◌<◌, ◌+◌, ◌&&◌, ◌||◌, ℕ, suc, Bool, not, List, [], ◌∷◌, ◌++◌, map, length, take, drop, set, get_or, refl, sym, ap, ◌∙◌, arith, append_assoc, drop-cons}
use Rattle.std.proofs.lemmas.List.{take_more_set, map-append}
use Rattle.px_xmp_marks.specs.Reading.{Named, Attr, name_view, attribute_view}
use Rattle.px_xmp_marks.specs.declared.attributes.Attribute.{Attribute}
use Rattle.px_xmp_document.specs.declared.stored.Key.{Key}
use Rattle.px_xmp_document.specs.Scopes.{Item}
use Rattle.px_xmp_document.specs.Tags.{clash, is_among, are_unique}
use Rattle.px_xmp_document.specs.calls.Keys.{Pair, key_view, key_of, keys_of, is_key_among, are_keys_unique}

among_keys : (s : List Item) (n : Named) (attributes : List Attr) → is_key_among (key_of s n) (keys_of s attributes) ≡ is_among s n attributes
among_keys s n [] = refl
among_keys s n (a ∷ more) = ap (λ (b : Bool). clash s n a.name || b) (among_keys s n more)

pub unique_keys : (s : List Item) (attributes : List Attr) → are_keys_unique (keys_of s attributes) ≡ are_unique s attributes
unique_keys s [] = refl
unique_keys s (a ∷ more) =
    ap (λ (b : Bool). not b && are_keys_unique (keys_of s more)) (among_keys s a.name more)
    ∙ ap (λ (b : Bool). not (is_among s a.name more) && b) (unique_keys s more)

-- one more is stored
pub key_next : (s : List Item) (n : ℕ) (keys : List Key) (k : Key) (attributes : List Attribute) (d : Attribute) (all : List Pair)
    → n < length keys → n < length attributes → key_view k ≡ key_of s (name_view (get_or attributes n d).name)
    → map key_view (take n keys) ++ keys_of s (map attribute_view (drop n attributes)) ≡ all
    → map key_view (take (n + 1) (set keys n k)) ++ keys_of s (map attribute_view (drop (n + 1) attributes)) ≡ all
key_next s n keys k attributes d all l m e h =
    let rest = keys_of s (map attribute_view (drop (n + 1) attributes)) in
    let on : n + 1 ≡ suc n = omega arith in
    let here = drop-cons attributes n d m ∙ ap (λ (j : ℕ). get_or attributes n d ∷ drop j attributes) (sym on) in
    ap (λ (z : List Key). map key_view z ++ rest) (take_more_set keys n k l)
    ∙ ap (λ (z : List Pair). z ++ rest) (map-append key_view (take n keys) (k ∷ []))
    ∙ append_assoc (map key_view (take n keys)) (key_view k ∷ []) rest
    ∙ ap (λ (z : Pair). map key_view (take n keys) ++ (z ∷ rest)) e
    ∙ sym (ap (λ (z : List Attribute). map key_view (take n keys) ++ keys_of s (map attribute_view z)) here) ∙ h
