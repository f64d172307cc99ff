-- Elements of a list by their index.
use Rattle.std.proofs.Common.{◌≡◌, ℕ, zero, suc, ◌+◌, ◌<◌, ◌==◌, Some, option_map, List, [], ◌∷◌, ◌++◌, map, length, refl, ◌∙◌, ap, subst}
use Rattle.std.proofs.Common.{arith, ne_eqb, eq-eqb}
use Rattle.std.specs.Prelude.{Contains}
use Rattle.std.specs.List.{AllByRecursion}
use Rattle.std.proofs.lemmas.Bool.{cond-true, cond-false}
use Rattle.std.proofs.lemmas.Option.{slice_get_within, get_or_from_slice_get}
use Rattle.px_bytes.specs.Range.{Range, Apart, AllApart}
use Rattle.px_bytes.specs.lemmas.EachLaws.{all_at}
use Rattle.px_meaning.specs.Entry.{Entry, Rising}
use Rattle.px_meaning.specs.Directory.{entry_with}
use Rattle.px_tree.specs.Faults.{At}

module _ {X : Type 0} where
  -- a property at each index is one of each element
  pub each_from_at : (P : X → Type 0) (xs : List X) → ((i : ℕ) (x : X) → At xs i x → P x) → AllByRecursion P xs
  each_from_at P [] f = tt
  each_from_at P (x ∷ xs) f = (f 0 x refl, each_from_at P xs (λ i y e. f (suc i) y e))

  pub at_map : {Y : Type 0} (f : X → Y) (xs : List X) (i : ℕ) (x : X) → At xs i x → At (map f xs) i (f x)
  at_map f [] i x e = cc
  at_map f (y ∷ xs) zero x e = ap (option_map f) e
  at_map f (y ∷ xs) (suc i) x e = at_map f xs i x e

  pub at_left : (xs ys : List X) (i : ℕ) (x : X) → At xs i x → At (xs ++ ys) i x
  at_left [] ys i x e = cc
  at_left (y ∷ xs) ys zero x e = e
  at_left (y ∷ xs) ys (suc i) x e = at_left xs ys i x e

  -- from index k on, the list continues with xs
  abbrev pub From : List X → ℕ → List X → Type 0
  From all k xs = (j : ℕ) (x : X) → At xs j x → At all (k + j) x

  pub from_all : (xs : List X) → From xs 0 xs
  from_all xs j x e = let z : j ≡ 0 + j = omega arith in subst (λ k. At xs k x) z e

  pub from_head : (all : List X) (k : ℕ) (x : X) (xs : List X) → From all k (x ∷ xs) → At all k x
  from_head all k x xs f = let z : k + 0 ≡ k = omega arith in subst (λ k. At all k x) z (f 0 x refl)

  pub from_tail : (all : List X) (k : ℕ) (x : X) (xs : List X) → From all k (x ∷ xs) → From all (k + 1) xs
  from_tail all k x xs f j y e = let z : k + suc j ≡ k + 1 + j = omega arith in subst (λ k. At all k y) z (f (suc j) y e)

  pub from_left : (all : List X) (k : ℕ) (xs ys : List X) → From all k (xs ++ ys) → From all k xs
  from_left all k xs ys f j x e = f j x (at_left xs ys j x e)

  pub from_right : (all : List X) (k : ℕ) (xs ys : List X) → From all k (xs ++ ys) → From all (k + length xs) ys
  from_right all k [] ys f = let z : k ≡ k + 0 = omega arith in subst (λ k. From all k ys) z f
  from_right all k (x ∷ xs) ys f =
      let z : k + 1 + length xs ≡ k + length (x ∷ xs) = omega arith in
      subst (λ k. From all k ys) z (from_right all (k + 1) xs ys (from_tail all k x (xs ++ ys) f))

-- ranges that share no byte, by their indexes
pub at_apart : (rs : List Range) (i j : ℕ) (r s : Range) → AllApart rs → i < j → At rs i r → At rs j s → Apart r s
at_apart [] i j r s h l e f = cc
at_apart (y ∷ rs) i zero r s h l e f = absurd (omega arith)
at_apart (y ∷ rs) zero (suc j) r s h l e f = let q : y ≡ r = cc in subst (λ r. Apart r s) q (all_at (Apart y) rs j s h.0 f)
at_apart (y ∷ rs) (suc i) (suc j) r s h l e f = at_apart rs i j r s h.1 (omega arith) e f

-- ---- entries with rising tags

abbrev pub tags : List Entry → List ℕ
tags es = map (λ e. e.tag) es

pub at_rising : (es : List Entry) (i : ℕ) (e f : Entry) → Rising (tags es) → At es i e → At es (i + 1) f → e.tag < f.tag
at_rising es i e f r h k = let z : i + 1 ≡ suc i = omega arith in go es i r h (subst (λ j. At es j f) z k)
  where
    go : (es : List Entry) (i : ℕ) → Rising (tags es) → At es i e → At es (suc i) f → e.tag < f.tag
    go [] i r h k = cc
    go (x ∷ es) zero r h k = let q : x ≡ e = cc in
        subst (λ (x : Entry). x.tag < f.tag) q (all_at (λ t. x.tag < t) (tags es) 0 f.tag r.0 (at_map (λ e. e.tag) es 0 f k))
    go (x ∷ es) (suc i) r h k = go es i r.1 h k

-- an entry is the only one of its tag
pub at_found : (es : List Entry) (i : ℕ) (e : Entry) → Rising (tags es) → At es i e → entry_with e.tag es ≡ Some e
at_found [] i e r h = cc
at_found (x ∷ es) zero e r h =
    let q : x ≡ e = cc in cond-true (x.tag == e.tag) (Some x) (entry_with e.tag es) (eq-eqb x.tag e.tag (ap (λ (x : Entry). x.tag) q)) ∙ h
at_found (x ∷ es) (suc i) e r h =
    let l : x.tag < e.tag = all_at (λ t. x.tag < t) (tags es) i e.tag r.0 (at_map (λ e. e.tag) es i e h) in
    cond-false (x.tag == e.tag) (Some x) (entry_with e.tag es) (ne_eqb x.tag e.tag (λ q. omega arith)) ∙ at_found es i e r.1 h

-- ---- the elements of a list

pub contains_at : {X : Type 0} (xs : List X) (i : ℕ) (x : X) → At xs i x → Contains xs x
contains_at xs i x e = (i, slice_get_within xs i x e, get_or_from_slice_get xs i x x e)
