-- Fields kept in the order of their tags.
use Rattle.std.proofs.Common.{◌≡◌, ◌<◌, ℕ, List, [], ◌∷◌, ◌++◌, Option, Some, None, option_map, option_to_list, refl, ap, subst, sym, arith}
use Rattle.std.specs.List.{AllByRecursion}
use Rattle.std.proofs.lemmas.List.{append-nil}
use Rattle.px_bytes.specs.lemmas.EachLaws.{each_map, each_append}
use Rattle.px_field.specs.Values.{Value}
use Rattle.px_meaning.specs.Tree.{Fields}
use Rattle.px_meaning.specs.Entry.{Rising}
use Rattle.px_meaning.specs.calls.Places.{tags}
use Rattle.px_tree.specs.calls.Reading.{Precede}

rising_more : (ts : List ℕ) (t : ℕ) → Rising ts → AllByRecursion (λ s. s < t) ts → Rising (ts ++ t ∷ [])
rising_more [] t r h = (tt, tt)
rising_more (s ∷ ts) t r h = (each_append (λ u. s < u) ts (t ∷ []) r.0 (h.0, tt), rising_more ts t r.1 h.1)

pub tags_more : (fields : Fields) (t : ℕ) (v : Value) → tags (fields ++ (t, v) ∷ []) ≡ tags fields ++ t ∷ []
tags_more [] t v = refl
tags_more (f ∷ fields) t v = ap (λ (l : List ℕ). f.0 ∷ l) (tags_more fields t v)

pub rising_push : (fields : Fields) (t : ℕ) (v : Value) → Rising (tags fields) → AllByRecursion (λ s. s < t) (tags fields)
    → Rising (tags (fields ++ (t, v) ∷ []))
rising_push fields t v r h = subst Rising (sym (tags_more fields t v)) (rising_more (tags fields) t r h)

-- with one more field, if there is one
abbrev pub and_more : Fields → ℕ → Option Value → Fields
and_more fields t x = fields ++ option_to_list (option_map (λ v. (t, v)) x)

pub rising_kept : (fields new : Fields) (t : ℕ) (x : Option Value) → new ≡ and_more fields t x → Rising (tags fields)
    → AllByRecursion (λ s. s < t) (tags fields) → Rising (tags new)
rising_kept fields new t None is r h =
    subst (λ (l : Fields). Rising (tags l)) (sym is) (subst (λ (l : Fields). Rising (tags l)) (sym (append-nil fields)) r)
rising_kept fields new t (Some v) is r h = subst (λ (l : Fields). Rising (tags l)) (sym is) (rising_push fields t v r h)

pub precede_kept : (fields new : Fields) (t : ℕ) (x : Option Value) → new ≡ and_more fields t x → AllByRecursion (λ s. s < t) (tags fields)
    → Precede (Some t) new
precede_kept fields new t None is h u l = subst (λ (l : Fields). AllByRecursion (λ s. s < u) (tags l)) (sym is)
    (subst (λ (l : Fields). AllByRecursion (λ s. s < u) (tags l)) (sym (append-nil fields))
    (each_map (λ s. s < t) (λ s. s < u) (λ s k. omega arith) (tags fields) h))
precede_kept fields new t (Some v) is h u l = subst (λ (l : Fields). AllByRecursion (λ s. s < u) (tags l)) (sym is)
    (subst (λ (l : List ℕ). AllByRecursion (λ s. s < u) l) (sym (tags_more fields t v))
    (each_append (λ s. s < u) (tags fields) (t ∷ []) (each_map (λ s. s < t) (λ s. s < u) (λ s k. omega arith) (tags fields) h) (l, tt)))
