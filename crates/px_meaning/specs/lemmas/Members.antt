-- Members of a list, and of a function's results on its members.
use Rattle.std.proofs.Common.{◌≡◌, zero, suc, Option, Some, None, List, [], ◌∷◌, filter_map, refl, sym, ◌∙◌, ap, subst, arith}
use Rattle.std.specs.Prelude.{Contains}
use Rattle.std.specs.List.{AllByRecursion, cons_option}

-- a property of each is one of a member
pub each_member : {X : Type 0} (P : X → Type 0) (xs : List X) (x : X) → AllByRecursion P xs → Contains xs x → P x
each_member P [] x h (k, l, e) = absurd (omega arith)
each_member P (y ∷ xs) x h (zero, l, e) = subst P e h.0
each_member P (y ∷ xs) x h (suc k, l, e) = each_member P xs x h.1 (k, omega arith, e)

module _ {X Y : Type 0} (g : X → Option Y) (y : Y) where
  -- some member is made into y
  abbrev pub Made : List X → Type 0
  Made xs = (x : X) × Contains xs x × (g x ≡ Some y)

  later : (x : X) (xs : List X) → Made xs → Made (x ∷ xs)
  later x xs (z, (k, l, e), q) = (z, (suc k, omega arith, e), q)

  made_first : (x : X) (xs : List X) → (Contains (filter_map g xs) y → Made xs) → (o : Option Y) → g x ≡ o
      → Contains (cons_option o (filter_map g xs)) y → Made (x ∷ xs)
  made_first x xs rest None q c = later x xs (rest c)
  made_first x xs rest (Some z) q (zero, l, e) = (x, (zero, omega arith, refl), q ∙ ap Some e)
  made_first x xs rest (Some z) q (suc k, l, e) = later x xs (rest (k, omega arith, e))

  pub made_from : (xs : List X) → Contains (filter_map g xs) y → Made xs
  made_from [] (k, l, e) = absurd (omega arith)
  made_from (x ∷ xs) c = made_first x xs (made_from xs) (g x) refl c

  after : (o : Option Y) (ys : List Y) → Contains ys y → Contains (cons_option o ys) y
  after None ys c = c
  after (Some z) ys (k, l, e) = (suc k, omega arith, e)

  pub made_into : (xs : List X) (x : X) → Contains xs x → g x ≡ Some y → Contains (filter_map g xs) y
  made_into [] x (k, l, e) q = absurd (omega arith)
  made_into (z ∷ xs) x (zero, l, e) q =
      subst (λ (o : Option Y). Contains (cons_option o (filter_map g xs)) y) (sym (ap g e ∙ q)) (0, omega arith, refl)
  made_into (z ∷ xs) x (suc k, l, e) q = after (g z) (filter_map g xs) (made_into xs x (k, omega arith, e) q)
