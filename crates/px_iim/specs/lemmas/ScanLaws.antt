-- The state of a scan of a block: the DataSets so far, the bytes left, and their checks.
use Rattle.std.proofs.Common.{◌≡◌, ◌<◌, ◌≤◌, ◌+◌, ℕ, zero, suc, true, false, inl, inr, sym, ap, ◌∙◌, arith, le-leb, None, List, [], ◌++◌}
use Rattle.std.proofs.Common.{length, drop, length-drop, append-nil}
use Rattle.std.proofs.lemmas.Bool.{cond-true, cond-false, cases_Bool}
use Rattle.px_bytes.specs.Checks.{Check, first_false}
use Rattle.px_bytes.specs.lemmas.CheckLaws.{first_false_true}
use Rattle.px_bytes.specs.Parts.{limit}
use Rattle.px_iim.specs.Record.{extra, size, is_dataset, is_end}
use Rattle.px_iim.specs.Check.{dataset_checks, checks_from, iim_checks}
use Rattle.px_iim.specs.lemmas.EncodingLaws.{dataset_holds}
use Rattle.px_iim.specs.lemmas.FaultLaws.{checks_after, checks_step, after_end, after_more}

-- ---- the checks of the bytes left

-- as many checks as the bytes can have
abbrev pub checks_left : ℕ → List ℕ → List Check
checks_left p x = checks_from (length x + 1) p x

no_dataset : (n p : ℕ) (x : List ℕ) → is_dataset x ≡ false → checks_after n p x ≡ []
unfolding checks_after
no_dataset n p x h = cond-false _ _ _ h

dataset_drop_shorter : (x : List ℕ) → is_dataset x ≡ true → length (drop (size x) x) < length x
dataset_drop_shorter x h = let f = dataset_holds x h in let a = f.five in let w = f.whole in let d = length-drop (size x) x in omega arith

-- more of them change nothing
pub checks_enough : (n m p : ℕ) (x : List ℕ) → length x < n → length x < m → checks_from n p x ≡ checks_from m p x
checks_enough zero m p x h k = absurd (omega arith)
checks_enough (suc n) zero p x h k = absurd (omega arith)
checks_enough (suc n) (suc m) p x h k =
    let same : checks_after n p x ≡ checks_after m p x = elim (cases_Bool (is_dataset x)) [
      | inl t ↦ elim (cases_Bool (is_end (drop (size x) x))) [
        | inl e ↦ after_end n p x t e ∙ sym (after_end m p x t e)
        | inr e ↦
            let s = dataset_drop_shorter x t in
            after_more n p x t e ∙ checks_enough n m (p + size x) (drop (size x) x) (omega arith) (omega arith)
            ∙ sym (after_more m p x t e)
      ]
      | inr f ↦ no_dataset n p x f ∙ sym (no_dataset m p x f)
    ] in
    checks_step n p x ∙ ap (λ (cs : List Check). dataset_checks p x ++ cs) same ∙ sym (checks_step m p x)

left_step : (p : ℕ) (x : List ℕ) → checks_left p x ≡ dataset_checks p x ++ checks_after (length x) p x
left_step p x = let n : length x + 1 ≡ suc (length x) = omega arith in ap (λ (j : ℕ). checks_from j p x) n ∙ checks_step (length x) p x

-- the checks of a whole DataSet are true
pub dataset_clean : (p : ℕ) (x : List ℕ) → is_dataset x ≡ true → first_false (dataset_checks p x) ≡ None
dataset_clean p x h =
    let f = dataset_holds x h in
    cond-true _ _ _ f.marked ∙ cond-true _ _ _ (le-leb 5 (length x) f.five) ∙ cond-true _ _ _ f.formed
    ∙ cond-true _ _ _ (le-leb (5 + extra x) (length x) f.counted) ∙ cond-true _ _ _ (le-leb (size x) (length x) f.whole)

-- without a DataSet, the fault is that of its checks
pub left_fault : (p : ℕ) (x : List ℕ) → is_dataset x ≡ false → first_false (checks_left p x) ≡ first_false (dataset_checks p x)
left_fault p x h =
    ap first_false (left_step p x ∙ ap (λ (cs : List Check). dataset_checks p x ++ cs) (no_dataset (length x) p x h)
    ∙ append-nil (dataset_checks p x))

-- after the last DataSet nothing is wrong
pub left_end : (p : ℕ) (x : List ℕ) → is_dataset x ≡ true → is_end (drop (size x) x) ≡ true → first_false (checks_left p x) ≡ None
left_end p x h e =
    ap first_false (left_step p x) ∙ first_false_true (dataset_checks p x) (checks_after (length x) p x) (dataset_clean p x h)
    ∙ ap first_false (after_end (length x) p x h e)

-- after any other, the fault is that of the bytes left
pub left_more : (p : ℕ) (x : List ℕ) → is_dataset x ≡ true → is_end (drop (size x) x) ≡ false
    → first_false (checks_left p x) ≡ first_false (checks_left (p + size x) (drop (size x) x))
left_more p x h e =
    let s = dataset_drop_shorter x h in
    ap first_false (left_step p x) ∙ first_false_true (dataset_checks p x) (checks_after (length x) p x) (dataset_clean p x h)
    ∙ ap first_false (after_more (length x) p x h e ∙ checks_enough (length x) (length (drop (size x) x) + 1) (p + size x)
    (drop (size x) x) s (omega arith))

-- a block that isn't too long has the checks of all its bytes
pub iim_left : (x : List ℕ) → length x ≤ limit → first_false (iim_checks x) ≡ first_false (checks_left 0 x)
unfolding iim_checks
iim_left x l = cond-true _ _ _ (le-leb (length x) limit l)
