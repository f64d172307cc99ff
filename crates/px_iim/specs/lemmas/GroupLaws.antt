-- The laws of records as lists of groups.
use Rattle.std.proofs.Common.{◌≡◌, ◌==◌, ℕ, true, false, inl, inr, refl, sym, ap, subst, ◌∙◌, eq-eqb, if◌then◌else◌, Option, Some, None}
use Rattle.std.proofs.Common.{List, [], ◌∷◌, ◌++◌, filter_map, append-nil}
use Rattle.std.specs.List.{AllByRecursion, cons_option}
use Rattle.std.proofs.lemmas.Bool.{cond-true, cond-false, cases_Bool, and_from, true≢false}
use Rattle.px_iim.specs.DataSet.{DataSet}
use Rattle.px_iim.specs.Group.{Group, Record, named, is_at, is_before, IsAscending, items_at, item_in, put}
use Rattle.px_iim.specs.lemmas.KeyLaws.{at_parts, at_true, at_false, before_trans, before_apart, At, group_cases}

-- an item
abbrev pub Item : Type 0
Item = ℕ × List ℕ

-- ---- a DataSet put

abbrev pub new_group : DataSet → Group
new_group d = record { rec = d.rec; number = named d.rec d.number; items = (d.number, d.octets) ∷ [] }

abbrev pub longer : DataSet → Group → Group
longer d g = record { rec = g.rec; number = g.number; items = g.items ++ (d.number, d.octets) ∷ [] }

module _ (d : DataSet) (g : Group) (gs : Record) where
  pub put_at : is_at d.rec (named d.rec d.number) g ≡ true → put d (g ∷ gs) ≡ longer d g ∷ gs
  unfolding put
  put_at h = cond-true _ _ _ h

  pub put_under : is_at d.rec (named d.rec d.number) g ≡ false → is_before d.rec (named d.rec d.number) g.rec g.number ≡ true
      → put d (g ∷ gs) ≡ new_group d ∷ g ∷ gs
  unfolding put
  put_under h k = cond-false _ _ _ h ∙ cond-true _ _ _ k

  pub put_over : is_at d.rec (named d.rec d.number) g ≡ false → is_before d.rec (named d.rec d.number) g.rec g.number ≡ false
      → put d (g ∷ gs) ≡ g ∷ put d gs
  unfolding put
  put_over h k = cond-false _ _ _ h ∙ cond-false _ _ _ k

pub put_nil : (d : DataSet) → put d [] ≡ new_group d ∷ []
unfolding put
put_nil d = refl

-- a property of each group, and of the two that a DataSet can make, is one of each group after it is added
pub put_all : (P : Group → Type 0) (d : DataSet) → P (new_group d)
    → ((g : Group) → At d.rec (named d.rec d.number) g → P g → P (longer d g)) →
    (i : Record) → AllByRecursion P i → AllByRecursion P (put d i)
put_all P d n l [] h = subst (AllByRecursion P) (sym (put_nil d)) (n, tt)
put_all P d n l (g ∷ gs) h = elim (group_cases d.rec (named d.rec d.number) g) [
  | inl a ↦ subst (AllByRecursion P) (sym (put_at d g gs a.0)) (l g a h.0, h.1)
  | inr (inl u) ↦ subst (AllByRecursion P) (sym (put_under d g gs u.0 u.1)) (n, h)
  | inr (inr o) ↦ subst (AllByRecursion P) (sym (put_over d g gs o.0 o.1)) (h.0, put_all P d n l gs h.1)
]

-- ---- groups stay in order

abbrev pub After : ℕ → ℕ → Group → Type 0
After rec number h = is_before rec number h.rec h.number ≡ true

pub each_after : (a b c e : ℕ) → is_before a b c e ≡ true → (gs : Record) → AllByRecursion (After c e) gs → AllByRecursion (After a b) gs
each_after a b c e h [] k = tt
each_after a b c e h (g ∷ gs) k = (before_trans a b c e g.rec g.number h k.0, each_after a b c e h gs k.1)

pub put_ascends : (d : DataSet) (i : Record) → IsAscending i → IsAscending (put d i)
put_ascends d [] h = subst IsAscending (sym (put_nil d)) (tt, tt)
put_ascends d (g ∷ gs) h = elim (group_cases d.rec (named d.rec d.number) g) [
  | inl a ↦ subst IsAscending (sym (put_at d g gs a.0)) h
  | inr (inl u) ↦ subst IsAscending (sym (put_under d g gs u.0 u.1)) (
    (
      u.1,
      each_after d.rec (named d.rec d.number) g.rec g.number u.1 gs
          h.0,
    ),
    h,
  )
  | inr (inr o) ↦ subst IsAscending (sym (put_over d g gs o.0 o.1)) (
    put_all (After g.rec g.number) d o.2 (λ x a y. y) gs h.0,
    put_ascends
        d gs h.1,
  )
]

-- ---- the lists

module _ (rec number : ℕ) where
  pub items_here : (g : Group) (gs : Record) → is_at rec number g ≡ true → items_at rec number (g ∷ gs) ≡ g.items
  items_here g gs h = cond-true _ _ _ h

  pub items_there : (g : Group) (gs : Record) → is_at rec number g ≡ false → items_at rec number (g ∷ gs) ≡ items_at rec number gs
  items_there g gs h = cond-false _ _ _ h

  -- no list is after its position
  pub items_past : (gs : Record) → AllByRecursion (After rec number) gs → items_at rec number gs ≡ []
  items_past [] h = refl
  items_past (g ∷ gs) h =
      items_there g gs (at_false rec number g (λ p q. before_apart rec number g.rec g.number h.0 (sym p) (sym q))) ∙ items_past gs h.1

  -- a DataSet of the group, and one of another
  pub item_here : (d : DataSet) → d.rec ≡ rec → named d.rec d.number ≡ number → item_in rec number d ≡ Some (d.number, d.octets)
  item_here d p q =
      cond-true _ _ _ (and_from (d.rec == rec) (named d.rec d.number == number) (eq-eqb d.rec rec p)
      (eq-eqb (named d.rec d.number) number q))

  pub item_there : (d : DataSet) → is_at rec number (new_group d) ≡ false → item_in rec number d ≡ None
  item_there d h = cond-false _ _ _ h

  put_other : (d : DataSet) → is_at rec number (new_group d) ≡ false → (i : Record) → items_at rec number (put d i) ≡ items_at rec number i
  put_other d h [] = ap (items_at rec number) (put_nil d) ∙ items_there (new_group d) [] h
  put_other d h (g ∷ gs) = elim (group_cases d.rec (named d.rec d.number) g) [
    | inl a ↦
        let other : is_at rec number g ≡ false =
        at_false rec number g (λ p q. true≢false (sym (at_true rec number (new_group d) (sym a.1 ∙ p) (sym a.2 ∙ q)) ∙ h)) in
        ap (items_at rec number) (put_at d g gs a.0) ∙ items_there (longer d g) gs other ∙ sym (items_there g gs other)
    | inr (inl u) ↦ ap (items_at rec number) (put_under d g gs u.0 u.1) ∙ items_there (new_group d) (g ∷ gs) h
    | inr (inr o) ↦ ap (items_at rec number) (put_over d g gs o.0 o.1)
        ∙ ap (λ (z : List Item). if is_at rec number g then g.items else z) (put_other d h gs)
  ]

put_same : (d : DataSet) (i : Record) → IsAscending i → items_at d.rec (named d.rec d.number) (put d i) ≡ items_at d.rec
    (named d.rec d.number) i ++ (d.number, d.octets) ∷ []
put_same d [] h = ap (items_at d.rec (named d.rec d.number)) (put_nil d)
    ∙ items_here d.rec (named d.rec d.number) (new_group d) [] (at_true d.rec (named d.rec d.number) (new_group d) refl refl)
put_same d (g ∷ gs) h = elim (group_cases d.rec (named d.rec d.number) g) [
  | inl a ↦ ap (items_at d.rec (named d.rec d.number)) (put_at d g gs a.0) ∙ items_here d.rec (named d.rec d.number) (longer d g) gs a.0
      ∙ ap (λ (z : List Item). z ++ (d.number, d.octets) ∷ []) (sym (items_here d.rec (named d.rec d.number) g gs a.0))
  | inr (inl u) ↦ ap (items_at d.rec (named d.rec d.number)) (put_under d g gs u.0 u.1)
      ∙ items_here d.rec (named d.rec d.number) (new_group d) (g ∷ gs) (at_true d.rec (named d.rec d.number) (new_group d) refl refl)
      ∙ ap (λ (z : List Item). z ++ (d.number, d.octets) ∷ []) (sym (items_past d.rec (named d.rec d.number) (g ∷ gs)
      (u.1, each_after d.rec (named d.rec d.number) g.rec g.number u.1 gs h.0)))
  | inr (inr o) ↦ ap (items_at d.rec (named d.rec d.number)) (put_over d g gs o.0 o.1)
      ∙ items_there d.rec (named d.rec d.number) g (put d gs) o.0 ∙ put_same d gs h.1
      ∙ ap (λ (z : List Item). z ++ (d.number, d.octets) ∷ []) (sym (items_there d.rec (named d.rec d.number) g gs o.0))
]

-- the list of a group, with the DataSet if it is of that group
pub put_items : (d : DataSet) (i : Record) → IsAscending i → (rec number : ℕ)
    → items_at rec number (put d i) ≡ items_at rec number i ++ filter_map (item_in rec number) (d ∷ [])
put_items d i h rec number = elim (cases_Bool (is_at rec number (new_group d))) [
  | inl t ↦
      let p = at_parts rec number (new_group d) t in
      let one : filter_map (item_in rec number) (d ∷ []) ≡ (d.number, d.octets) ∷ [] =
      ap (λ (z : Option Item). cons_option z []) (item_here rec number d p.0 p.1) in
      subst (λ (r : ℕ). items_at r number (put d i) ≡ items_at r number i ++ (d.number, d.octets) ∷ []) p.0
      (subst (λ (n : ℕ). items_at d.rec n (put d i) ≡ items_at d.rec n i ++ (d.number, d.octets) ∷ []) p.1 (put_same d i h))
      ∙ ap (λ (z : List Item). items_at rec number i ++ z) (sym one)
  | inr f ↦
      let none : filter_map (item_in rec number) (d ∷ []) ≡ [] = ap (λ (z : Option Item). cons_option z []) (item_there rec number d f) in
      put_other rec number d f i ∙ sym (append-nil (items_at rec number i)) ∙ ap (λ (z : List Item). items_at rec number i ++ z) (sym none)
]
