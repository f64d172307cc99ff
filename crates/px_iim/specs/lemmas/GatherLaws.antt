-- A sequence of DataSets is gathered in one way, by putting them one after another.
use Rattle.std.proofs.Common.{◌≡◌, ◌≤◌, ℕ, true, inl, inr, refl, sym, ap, subst, ◌∙◌, arith, List, [], ◌∷◌, ◌++◌, length, filter_map}
use Rattle.std.proofs.Common.{append-nil, append_assoc, length-append}
use Rattle.std.specs.List.{AllByRecursion}
use Rattle.std.proofs.lemmas.Bool.{cases_Bool}
use Rattle.std.proofs.lemmas.List.Elements.{filter_map-append}
use Rattle.px_iim.specs.DataSet.{DataSet}
use Rattle.px_iim.specs.Group.{Group, Record, is_at, IsAscending, items_at, item_in, put, gather, Gathers}
use Rattle.px_iim.specs.lemmas.KeyLaws.{at_parts, at_true, group_cases}
use Rattle.px_iim.specs.lemmas.GroupLaws.{Item, After, put_all, put_ascends, put_items, each_after, items_here, items_there, items_past}
use Rattle.px_iim.specs.Laws.{PutAppends, GatherGathers}

pub put_appends : PutAppends
put_appends d i h = (put_ascends d i h, put_items d i h)

-- ---- gathered by putting

abbrev pub IsSome : Group → Type 0
IsSome g = 1 ≤ length g.items

pub put_gathers : (d : DataSet) (before : List DataSet) (i : Record) → Gathers before i → Gathers (before ++ d ∷ []) (put d i)
put_gathers d before i h = record {
  ascending = put_ascends d i h.ascending;
  some = put_all IsSome d (omega arith) (λ g a l. let e = length-append g.items ((d.number, d.octets) ∷ []) in omega arith) i h.some;
  filtered = λ rec number. put_items d i h.ascending rec number
      ∙ ap (λ (z : List Item). z ++ filter_map (item_in rec number) (d ∷ [])) (h.filtered rec number)
      ∙ sym (filter_map-append (item_in rec number) before (d ∷ []));
}

pub gathers_from : (ds before : List DataSet) (i : Record) → Gathers before i → Gathers (before ++ ds) (gather i ds)
unfolding gather
gathers_from [] before i h = subst (λ (z : List DataSet). Gathers z i) (sym (append-nil before)) h
gathers_from (d ∷ ds) before i h =
    subst (λ (z : List DataSet). Gathers z (gather (put d i) ds)) (append_assoc before (d ∷ []) ds)
    (gathers_from ds (before ++ d ∷ []) (put d i) (put_gathers d before i h))

pub gather_from_empty : (ds : List DataSet) → Gathers ds (gather [] ds)
gather_from_empty ds = gathers_from ds [] [] (record { ascending = tt; some = tt; filtered = λ rec number. refl })

-- ---- in one way

group_not_empty : (g : Group) → 1 ≤ length g.items → g.items ≡ [] → ⊥
group_not_empty g l e = let n = ap length e in omega arith

-- an ascending list that begins before another's first group has a list that the other hasn't
items_at_before : (g h : Group) (gs hs : Record) → After g.rec g.number h → IsAscending (h ∷ hs) → 1 ≤ length g.items
    → items_at g.rec g.number (g ∷ gs) ≡ items_at g.rec g.number (h ∷ hs) → ⊥
items_at_before g h gs hs b a l e = group_not_empty g l (
    sym (items_here g.rec g.number g gs (at_true g.rec g.number g refl refl)) ∙ e
    ∙ items_past g.rec g.number (h ∷ hs) (b, each_after g.rec g.number h.rec h.number b hs a.0))

pub no_more : (g : Group) (gs : Record) → AllByRecursion (After g.rec g.number) gs → (rec number : ℕ) → is_at rec number g ≡ true
    → items_at rec number gs ≡ []
no_more g gs a rec number t =
    let p = at_parts rec number g t in
    subst (λ (r : ℕ). items_at r number gs ≡ []) p.0 (subst (λ (n : ℕ). items_at g.rec n gs ≡ []) p.1 (items_past g.rec g.number gs a))

-- groups in order are equal if their lists are
pub same_groups : (i j : Record) → IsAscending i → IsAscending j → AllByRecursion IsSome i → AllByRecursion IsSome j →
    ((rec number : ℕ) → items_at rec number i ≡ items_at rec number j) → i ≡ j
same_groups [] [] a b k l e = refl
same_groups [] (h ∷ hs) a b k l e =
    absurd (group_not_empty h l.0 (sym (e h.rec h.number ∙ items_here h.rec h.number h hs (at_true h.rec h.number h refl refl))))
same_groups (g ∷ gs) [] a b k l e =
    absurd (group_not_empty g k.0 (sym (items_here g.rec g.number g gs (at_true g.rec g.number g refl refl)) ∙ e g.rec g.number))
same_groups (g ∷ gs) (h ∷ hs) a b k l e = elim (group_cases g.rec g.number h) [
  | inl t ↦
      let items : g.items ≡ h.items = sym (items_here g.rec g.number g gs (at_true g.rec g.number g refl refl)) ∙ e g.rec g.number
      ∙ items_here g.rec g.number h hs t.0 in
      let first : g ≡ h = λ x. record { rec = sym t.1 x; number = sym t.2 x; items = items x } in
      let tails : (rec number : ℕ) → items_at rec number gs ≡ items_at rec number hs =
      λ rec number. elim (cases_Bool (is_at rec number g)) [
        | inl here ↦ no_more g gs a.0 rec number here ∙ sym (no_more h hs b.0 rec number (ap (is_at rec number) (sym first) ∙ here))
        | inr there ↦ sym (items_there rec number g gs there) ∙ e rec number
            ∙ items_there rec number h hs (ap (is_at rec number) (sym first) ∙ there)
      ] in
      let rest : gs ≡ hs = same_groups gs hs a.1 b.1 k.1 l.1 tails in
      λ x. first x ∷ rest x
  | inr (inl u) ↦ absurd (items_at_before g h gs hs u.1 b k.0 (e g.rec g.number))
  | inr (inr o) ↦ absurd (items_at_before h g hs gs o.2 a l.0 (sym (e h.rec h.number)))
]

pub one_gathering : (ds : List DataSet) (i j : Record) → Gathers ds i → Gathers ds j → i ≡ j
one_gathering ds i j g h =
    same_groups i j g.ascending h.ascending g.some h.some (λ rec number. g.filtered rec number ∙ sym (h.filtered rec number))

pub gather_gathers : GatherGathers
gather_gathers ds i = (λ g. one_gathering ds (gather [] ds) i (gather_from_empty ds) g, λ e. subst (Gathers ds) e (gather_from_empty ds))
