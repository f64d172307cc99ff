-- Links that lead to an offset.
use Rattle.std.proofs.Common.{◌≡◌, ℕ, zero, suc, ◌+◌, ◌<◌, ◌==◌, ◌||◌, Bool, true, false, List, [], ◌∷◌, ◌++◌, Option, drop, length, get_or}
use Rattle.std.proofs.Common.{refl, sym, ap, ◌∙◌, arith}
use Rattle.px_tree.specs.declared.links.Link.{Link}
use Rattle.px_tree.specs.Checks.{is_earlier_at}
use Rattle.px_tree.specs.calls.Linked.{offset_of, offsets_of}

earlier_append : (xs ys : List ℕ) (a : ℕ) → is_earlier_at (xs ++ ys) a ≡ (is_earlier_at xs a || is_earlier_at ys a)
earlier_append [] ys a = refl
earlier_append (x ∷ xs) ys a =
    ap (λ (t : Bool). (x == a) || t) (earlier_append xs ys a) ∙ regroup (x == a) (is_earlier_at xs a) (is_earlier_at ys a)
  where
    regroup : (p q r : Bool) → (p || (q || r)) ≡ ((p || q) || r)
    regroup true q r = refl
    regroup false q r = refl

links_next : (xs : List (Option Link)) (i : ℕ) (d : Option Link) (a : ℕ) → i < length xs
    → is_earlier_at (offsets_of (drop i xs)) a ≡ (is_earlier_at (offset_of (get_or xs i d)) a || is_earlier_at
    (offsets_of (drop (suc i) xs)) a)
links_next [] i d a l = absurd (omega arith)
links_next (x ∷ xs) zero d a l = earlier_append (offset_of x) (offsets_of xs) a
links_next (x ∷ xs) (suc i) d a l = links_next xs i d a (omega arith)

module _ (xs : List (Option Link)) (i : ℕ) (d : Option Link) (a : ℕ) (inside : i < length xs) (r : Bool)
    (is : r ≡ is_earlier_at (offset_of (get_or xs i d)) a) where
  abbrev rest : Bool
  rest = is_earlier_at (offsets_of (drop (suc i) xs)) a

  -- the link at i leads there
  pub here_earlier : r ≡ true → is_earlier_at (offsets_of (drop i xs)) a ≡ true
  here_earlier h = links_next xs i d a inside ∙ ap (λ (t : Bool). t || rest) (sym is ∙ h)

  -- it doesn't
  pub pass_earlier : r ≡ false → is_earlier_at (offsets_of (drop (i + 1) xs)) a ≡ is_earlier_at (offsets_of (drop i xs)) a
  pass_earlier h =
      let e : i + 1 ≡ suc i = omega arith in
      ap (λ (k : ℕ). is_earlier_at (offsets_of (drop k xs)) a) e
      ∙ sym (links_next xs i d a inside ∙ ap (λ (t : Bool). t || rest) (sym is ∙ h))
