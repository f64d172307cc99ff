-- A block that is built piece by piece.
use Rattle.std.proofs.Common.{◌≡◌, ℕ, zero, suc, ◌+◌, ◌-◌, ◌<◌, ◌≤◌, ◌&&◌, nat_lt, nat_le, inl, inr, Some, List, [], ◌∷◌, ◌++◌, map, length}
use Rattle.std.proofs.Common.{take, drop, get_or, slice_get, slice_index, replicate, refl, sym, ◌∙◌, ap, ap₂, subst, arith, ltb-true}
use Rattle.std.proofs.Common.{lt-ltb, le-leb, length-drop, get_or-take, get_or-drop, append_assoc}
use Rattle.std.specs.List.{range_with_len}
use Rattle.std.proofs.lemmas.Bool.{and_from, and_parts, cond-true, cond-false, cases_lt, leb-true, false_from_ne_true}
use Rattle.std.proofs.lemmas.List.{same_lists, length-append, length-take-le, get_or_append_left, get_or-append_right, drop-drop, drop_more}
use Rattle.std.proofs.lemmas.List.{take_all, take-append-le}
use Rattle.std.proofs.lemmas.Option.{slice_get_within, get_or_from_slice_get}
use borrow.Rule.Slice.PartMut.{put_mid}
use Rattle.px_layout.specs.Laid.{byte_at}
use Rattle.px_layout.specs.lemmas.PlacementLaws.{length_mapped, mapped_at}
use Rattle.px_plans.specs.calls.Building.{made, PutsOver}

-- ---- one piece

module _ (f : ℕ) (x : ℕ) (b : List ℕ) (ys : List (ℕ × List ℕ)) where
  covers : ℕ → Type 0
  covers p = (x ≤ p) × (p < x + length b)

  inside : (p : ℕ) → x ≤ p → p < x + length b → byte_at f ((x, b) ∷ ys) p ≡ slice_index b (p - x)
  inside p h k =
      cond-true (nat_le x p && nat_lt p (x + length b)) (slice_index b (p - x)) (byte_at f ys p)
      (and_from _ _ (le-leb x p h) (lt-ltb p (x + length b) k))

  outside : (p : ℕ) → ((x ≤ p) → (p < x + length b) → ⊥) → byte_at f ((x, b) ∷ ys) p ≡ byte_at f ys p
  outside p h = cond-false (nat_le x p && nat_lt p (x + length b)) (slice_index b (p - x)) (byte_at f ys p)
      (false_from_ne_true _ (λ e. let q = and_parts (nat_le x p) (nat_lt p (x + length b)) e in h (leb-true _ _ q.0) (ltb-true _ _ q.1)))

  default : (y : List ℕ) (k d : ℕ) → k < length y → slice_index y k ≡ get_or y k d
  default [] k d l = absurd (omega arith)
  default (z ∷ zs) zero d l = refl
  default (z ∷ zs) (suc k) d l = default zs k d (omega arith)

  module _ (n : ℕ) (fits : x + length b ≤ n) where
    abbrev old : List ℕ
    old = made n f ys

    abbrev new : List ℕ
    new = take x old ++ (b ++ drop (x + length b) old)

    length_old : length old ≡ n
    length_old = length_mapped (byte_at f ys) n

    length_front : length (take x old) ≡ x
    length_front = length-take-le x old (let e = length_old in omega arith)

    length_new : length new ≡ n
    length_new =
        let a = length-append (take x old) (b ++ drop (x + length b) old) in
        let c = length-append b (drop (x + length b) old) in
        let d = length-drop (x + length b) old in
        let e = length_old in let g = length_front in
        omega arith

    each : (k d : ℕ) → k < n → get_or (made n f ((x, b) ∷ ys)) k d ≡ get_or new k d
    each k d l =
        mapped_at (byte_at f ((x, b) ∷ ys)) n k d l ∙ elim (cases_lt k x) [
          | inl a ↦ outside k (λ h. absurd (omega arith)) ∙ sym (mapped_at (byte_at f ys) n k d l) ∙ sym (get_or-take x old k d a)
              ∙ sym (get_or_append_left (take x old) (b ++ drop (x + length b) old) d k (let g = length_front in omega arith))
          | inr a ↦ elim (cases_lt k (x + length b)) [
            | inl c ↦ inside k a c ∙ default b (k - x) d (omega arith)
                ∙ sym (get_or_append_left b (drop (x + length b) old) d (k - x) (omega arith))
                ∙ sym (get_or-append_right (take x old) (b ++ drop (x + length b) old) x k d length_front a)
            | inr c ↦ outside k (λ h j. absurd (omega arith)) ∙ sym (mapped_at (byte_at f ys) n k d l)
                ∙ ap (λ i. get_or old i d) (omega arith)
                ∙ sym (get_or-drop (x + length b) old (k - x - length b) d)
                ∙ sym (get_or-append_right b (drop (x + length b) old) (length b) (k - x) d refl (omega arith))
                ∙ sym (get_or-append_right (take x old) (b ++ drop (x + length b) old) x k d length_front a)
          ]
        ]

    pub one_over : made n f ((x, b) ∷ ys) ≡ take x (made n f ys) ++ (b ++ drop (x + length b) (made n f ys))
    one_over = same_lists (made n f ((x, b) ∷ ys)) new (length_mapped (byte_at f ((x, b) ∷ ys)) n ∙ sym length_new)
        (λ k d l. each k d (let e = length_mapped (byte_at f ((x, b) ∷ ys)) n in omega arith))

-- bytes that replaced others are a piece that was written over them
pub puts_one : (old : List ℕ) (x : ℕ) (b : List ℕ) → x + length b ≤ length old
    → PutsOver old (take x old ++ (b ++ drop (x + length b) old)) ((x, b) ∷ [])
puts_one old x b l f ys e =
    ap (λ o. take x o ++ (b ++ drop (x + length b) o)) e ∙ sym (one_over f x b ys (length old) l)

-- ---- several

pub puts_none : (b : List ℕ) → PutsOver b b []
puts_none b f ys e = e

pub puts_more : (a b c : List ℕ) (xs ys : List (ℕ × List ℕ)) → length b ≡ length a → PutsOver a b ys → PutsOver b c xs
    → PutsOver a c (xs ++ ys)
puts_more a b c xs ys l p q f zs e =
    q f (ys ++ zs) (p f zs e ∙ ap (λ n. made n f (ys ++ zs)) (sym l)) ∙ ap₂ (λ n ws. made n f ws) l (sym (append_assoc xs ys zs))

-- bytes that were copied into the middle
pub puts_mid : (old : List ℕ) (x k : ℕ) (b z : List ℕ) → z ≡ b → k ≡ length b → x + length b ≤ length old
    → PutsOver old (put_mid x k old z) ((x, b) ∷ [])
puts_mid old x k b z e q l = subst (λ n. PutsOver old n ((x, b) ∷ [])) (sym (same old)) (puts_one old x b l)
  where
    same : (old : List ℕ) → put_mid x k old z ≡ take x old ++ (b ++ drop (x + length b) old)
    same old = ap (λ t. take x old ++ t) (ap₂ (λ u v. u ++ v) e (drop-drop k x old ∙ ap (λ n. drop (x + n) old) q))

-- the block before any piece
pub none_made : (n filler : ℕ) → replicate n filler ≡ made n filler []
none_made n filler = same n 0
  where
    same : (n a : ℕ) → replicate n filler ≡ map (byte_at filler []) (range_with_len a n)
    same zero a = refl
    same (suc n) a = ap (λ t. filler ∷ t) (same n (a + 1))

-- ---- elements of a list, from the last on

pub drop_get : {X : Type 0} (xs : List X) (j k : ℕ) (x : X) → k ≡ j + 1 → slice_get xs j ≡ Some x → drop j xs ≡ x ∷ drop k xs
drop_get xs j k x e q = drop_more xs j x (slice_get_within xs j x q) ∙ ap₂ (λ y n. y ∷ drop n xs) (get_or_from_slice_get xs j x x q) (sym e)

-- the bytes that replace a whole list
pub put_whole : (n : ℕ) (xs ys zs : List ℕ) → n ≡ length xs → xs ≡ zs → take n (xs ++ ys) ≡ zs
put_whole n xs ys zs l e = take-append-le n xs ys (omega arith) ∙ take_all n xs (omega arith) ∙ e
