-- What the result for a whole block implies.
use Rattle.std.proofs.Common.{◌≡◌, ℕ, ◌≤◌, List, Option, Some, None, Result, Ok, Err, refl, length, sym, ap, ◌∙◌, subst, arith}
use Rattle.std.specs.Prelude.{IfOk, IfErr, ⊤}
use Rattle.px_bytes.specs.declared.Order.{Order}
use Rattle.px_bytes.specs.declared.Cause.{Cause}
use Rattle.px_bytes.specs.declared.Refusal.{Refusal}
use Rattle.px_bytes.specs.declared.Refusal.TheVariants.{Content, OutOfMemory}
use Rattle.px_bytes.specs.Parts.{limit}
use Rattle.px_bytes.specs.Numbers.{AreBytes}
use Rattle.px_bytes.specs.Checks.{first_false, Refuses, Judges, CountsAllocFailureInBlockBy, ContentOnly}
use Rattle.px_bytes.specs.lemmas.CheckLaws.{all_true, Refuses_more, Refuses_after}
use Rattle.px_iim.specs.Check.{iim_checks}
use Rattle.px_iim.specs.lemmas.FaultLaws.{meaning_clean}
use Rattle.px_iim.specs.lemmas.RecordLaws.{computed_is_meaning}
use Rattle.px_meaning.specs.Iim.{Iim, iim_of}
use Rattle.px_meaning.specs.Tree as spec
use Rattle.px_meaning.specs.Writable.{IsWritable}
use Rattle.px_meaning.specs.Says.{meaning, SaysExif}
use Rattle.px_tree.specs.Checks.{order_of, header_checks, tree_checks, checks_in, checks}
use Rattle.px_tree.specs.Refused.{IsRefused}
use Rattle.px_meaning.specs.lemmas.Filled.{meaning_is_writable}
use Rattle.px_tree.proofs.assembling.Judged.{none_false, judged_well, order_reported}
use Rattle.px_tree.proofs.faulting.ReportedAll.{first_is_fault}
use Rattle.px_tree.proofs.faulting.NoMeaning.{fault_excludes_meaning}
use Rattle.px_tree.proofs.faulting.Bounded.{fault_bounded}

-- bytes with a check that fails have no record
pub faulty_means_none : (x : List ℕ) (c : Cause) (p : ℕ) → first_false (iim_checks x) ≡ Some (c, p) → iim_of x ≡ None
faulty_means_none x c p h = go (iim_of x) refl
  where
    go : (z : Option Iim) → iim_of x ≡ z → iim_of x ≡ None
    go None e = e
    go (Some i) e = let q : ◌≡◌ {A = Option (Cause × ℕ)} None (Some (c, p)) = sym (meaning_clean x i (computed_is_meaning x i e)) ∙ h in cc

-- a refusal; out of memory means a failed allocation
pub refused_by : (X : Type 0) (b : List ℕ) (e : Refusal) (old new : ℕ) → length b ≤ limit → Refuses e (checks b)
    → CountsAllocFailureInBlockBy {X = X} (Err e) old new → IsRefused b new e
refused_by X b (Content c p) old new l h k =
    let f = first_is_fault b c p h in
    record { first = h; is_fault = f; bounded = fault_bounded b c p l f; no_meaning = λ m s. fault_excludes_meaning b c p m f s }
refused_by X b OutOfMemory old new l h k = omega (arith, k)

-- only a refusal of content
pub refused_only : (X : Type 0) (b : List ℕ) (e : Refusal) (refused : ℕ) → length b ≤ limit → Refuses e (checks b)
    → ContentOnly {X = X} (Err e) → IsRefused b refused e
refused_only X b (Content c p) refused l h k = refused_by X b (Content c p) refused refused l h refl
refused_only X b OutOfMemory refused l h k = absurd k

pub header_refuses : (b : List ℕ) (e : Refusal) → Refuses e (header_checks b) → Refuses e (checks b)
unfolding checks
header_refuses b e h = Refuses_more e (header_checks b) (checks_in b (order_of b)) h

module _ (b : List ℕ) (o : Order) (headed : first_false (header_checks b) ≡ None) (ordered : order_of b ≡ Some o) where
  tree_refuses : (e : Refusal) → Refuses e (tree_checks b o) → Refuses e (checks b)
  unfolding checks
  tree_refuses e h =
      Refuses_after e (header_checks b) (checks_in b (order_of b)) headed (subst (λ (x : Option Order). Refuses e (checks_in b x))
      (sym ordered) h)

  tree_means : first_false (tree_checks b o) ≡ None → SaysExif b (meaning b o)
  unfolding checks
  tree_means h =
      let w = judged_well b (none_false (checks b) (all_true (header_checks b) (checks_in b (order_of b)) headed
      (ap (λ (x : Option Order). first_false (checks_in b x)) ordered ∙ h))) in
      let s = w.1 in
      let e : Some o ≡ Some s.order = sym ordered ∙ order_reported b s.order s.is_block.begins in
      let q : o ≡ s.order = cc in
      record { order = s.order; is_block = s.is_block; means = ap (meaning b) q }

  -- a judgement of the tree is one of the block
  module _ {M : Type 0} where
    pub tree_judged : (r : Result M Refusal) → AreBytes b → Judges r (tree_checks b o) (λ _. ⊤)
        → IfOk r (λ _. (m : spec.Meaning) × SaysExif b m × IsWritable m)
    tree_judged (Ok x) a j = let s = tree_means j.0 in (meaning b o, s, meaning_is_writable b (meaning b o) a s)
    tree_judged (Err e) a j = tt

  -- the result for the tree is that for the block
  module _ {M : Type 0} (see : M → spec.Meaning) where
    pub tree_has_meaning : (r : Result M Refusal) → Judges r (tree_checks b o) (λ m. see m ≡ meaning b o) → IfOk r (λ m. SaysExif b (see m))
    tree_has_meaning (Ok m) j = subst (SaysExif b) (sym j.1) (tree_means j.0)
    tree_has_meaning (Err e) j = tt

    pub tree_refused : (r : Result M Refusal) (old new : ℕ) → length b ≤ limit → Judges r (tree_checks b o) (λ m. see m ≡ meaning b o)
        → CountsAllocFailureInBlockBy r old new → IfErr r (IsRefused b new)
    tree_refused (Ok m) old new l j k = tt
    tree_refused (Err e) old new l j k = refused_by M b e old new l (tree_refuses e j) k

    pub tree_fits : (r : Result M Refusal) → AreBytes b → IfOk r (λ m. SaysExif b (see m)) → IfOk r (λ m. IsWritable (see m))
    tree_fits (Ok m) a s = meaning_is_writable b (see m) a s
    tree_fits (Err e) a s = tt
