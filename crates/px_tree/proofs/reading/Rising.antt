-- Strips that follow one another lie inside the block and share no byte.
use Rattle.std.proofs.Common.{◌≡◌, ℕ, ◌+◌, ◌≤◌, true, not, List, [], ◌∷◌, length, None, nat_le, min, max, refl, arith, ◌∙◌, le-leb}
use Rattle.std.specs.List.{AllByRecursion}
use Rattle.std.proofs.lemmas.Bool.{and_from}
use Rattle.px_bytes.specs.Claimed.{IsFree}
use Rattle.px_bytes.specs.Range.{Range, range, shares, is_free, Agrees}
use Rattle.px_bytes.specs.Checks.{first_false}
use Rattle.px_bytes.specs.lemmas.CheckLaws.{first_false_true}
use Rattle.px_bytes.specs.lemmas.RangeLaws.{test_from_gap}
use Rattle.px_meaning.specs.Thumbnail.{IsInside}
use Rattle.px_tree.specs.Checks.{range_checks}
use Rattle.px_meaning.specs.calls.Strips.{Rise}
use Rattle.px_tree.proofs.reading.StripRanges.{range_check}

rise_order : (low high : ℕ) (rs : List Range) → Rise low high rs → low ≤ high
rise_order low high [] h = h
rise_order low high (r ∷ rs) h =
    let later = rise_order (r.start + r.size) high rs h.1 in
    let here = h.0 in
    omega arith

pub rise_inside : (b : List ℕ) (low high : ℕ) (rs : List Range) → Rise low high rs → high ≤ length b → AllByRecursion (IsInside b) rs
rise_inside b low high [] h l = tt
rise_inside b low high (r ∷ rs) h l =
    let later = rise_order (r.start + r.size) high rs h.1 in
    (omega arith, rise_inside b (r.start + r.size) high rs h.1 l)

-- each range from `low` up to `high` is free
abbrev pub AreFree : List Range → ℕ → ℕ → Type 0
AreFree now low high = (s n : ℕ) → low ≤ s → s + n ≤ high → is_free now (range s n) ≡ true

pub free_between : (taken : List Range) (claimed : List (ℕ × ℕ)) (low high : ℕ) → Agrees taken claimed → IsFree claimed low high
    → AreFree taken low high
free_between taken claimed low high a f s n l h = a.all_free s n (λ t e holds.
    let gap : min e high ≤ max t low = f t e holds in
    omega arith)

-- and those after r stay free once r is taken
free_after : (now : List Range) (low high : ℕ) (r : Range) → AreFree now low high → low ≤ r.start
    → AreFree (r ∷ now) (r.start + r.size) high
free_after now low high r f l s n k h =
    and_from (not (shares (range s n) r)) (is_free now (range s n)) (test_from_gap s n r.start r.size (omega arith))
    (f s n (omega arith) h)

range_passes : (b : List ℕ) (p : ℕ) (now : List Range) (r : Range) → nat_le (r.start + r.size) (length b) ≡ true → is_free now r ≡ true
    → first_false (range_check b p now r) ≡ None
range_passes b p now r i f = rw (i, f) refl

pub rise_true : (b : List ℕ) (p : ℕ) (now : List Range) (low high : ℕ) (rs : List Range) → Rise low high rs → high ≤ length b
    → AreFree now low high → first_false (range_checks b p now rs) ≡ None
rise_true b p now low high [] h l f = refl
rise_true b p now low high (r ∷ rs) h l f =
    let later = rise_order (r.start + r.size) high rs h.1 in
    first_false_true (range_check b p now r) (range_checks b p (r ∷ now) rs)
    (range_passes b p now r (le-leb (r.start + r.size) (length b) (omega arith)) (f r.start r.size h.0 later))
    ∙ rise_true b p (r ∷ now) (r.start + r.size) high rs h.1 l (free_after now low high r f h.0)
