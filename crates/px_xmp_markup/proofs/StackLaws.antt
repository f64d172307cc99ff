-- The stored names of open elements.
use Rattle.std.proofs.Common.{◌≡◌, ◌≤◌, ◌<◌, ◌+◌, ◌-◌, ℕ, List, [], ◌∷◌, ◌++◌, length, take, set, get_or, map, reverse, sym, ap, ◌∙◌, arith}
use Rattle.std.proofs.lemmas.List.{take_more, take_more_set, map-append, reverse-append, length-reverse, length-map, length-take-le}
use Rattle.px_xmp_marks.specs.Reading.{name_view}
use Rattle.px_xmp_marks.specs.declared.names.Name.{Name}
use Rattle.px_xmp_markup.specs.calls.Stacks.{stack_of}

pub length_stack_of : (n : ℕ) (names : List Name) → n ≤ length names → length (stack_of n names) ≡ n
length_stack_of n names h = length-reverse (map name_view (take n names)) ∙ length-map (take n names) name_view ∙ length-take-le n names h

one_last : (names : List Name) (m : Name) → reverse (map name_view (names ++ m ∷ [])) ≡ name_view m ∷ reverse (map name_view names)
one_last names m = ap reverse (map-append name_view names (m ∷ [])) ∙ reverse-append (map name_view names) (name_view m ∷ [])

pub stack_push : (n : ℕ) (names : List Name) (m : Name) → n < length names → stack_of (n + 1) (set names n m) ≡ name_view m ∷ stack_of n names
stack_push n names m h = ap (λ (x : List Name). reverse (map name_view x)) (take_more_set names n m h) ∙ one_last (take n names) m

pub stack_pop : (n : ℕ) (names : List Name) (d : Name) → 1 ≤ n → n ≤ length names
    → stack_of n names ≡ name_view (get_or names (n - 1) d) ∷ stack_of (n - 1) names
stack_pop n names d l h =
    let e : n - 1 + 1 ≡ n = omega arith in
    ap (λ (k : ℕ). stack_of k names) (sym e)
    ∙ ap (λ (x : List Name). reverse (map name_view x)) (take_more names (n - 1) d (omega arith))
    ∙ one_last (take (n - 1) names) (get_or names (n - 1) d)
