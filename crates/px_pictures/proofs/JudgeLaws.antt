-- Blocks that are judged one after another.
use Rattle.std.proofs.Common.{◌≡◌, ◌+◌, ◌<◌, ℕ, List, [], ◌∷◌, length, nat_le, refl, sym, ap, ◌∙◌, subst, arith}
use Rattle.std.proofs.lemmas.Bool.{cond-false, lt-leb}
use Rattle.px_bytes.specs.declared.Cause.{Cause}
use Rattle.px_bytes.specs.declared.Cause.TheVariants.{TooLong}
use Rattle.std.proofs.Common.{Err, add-zero}
use Rattle.px_bytes.specs.declared.Refusal.{Refusal}
use Rattle.px_bytes.specs.declared.Refusal.TheVariants.{Content, OutOfMemory}
use Rattle.px_bytes.specs.Checks.{CountsAllocFailureInBlockBy, Refuses}
use Rattle.px_bytes.specs.Parts.{limit}
use Rattle.px_iim.specs.Check.{iim_checks}
use Rattle.px_iim.specs.calls.Reading.{RefusesIim}
use Rattle.px_iim.specs.Group.{Record}
use Rattle.px_iim.specs.Record.{SaysIim}
use Rattle.px_meaning.specs.Tree.{Meaning}
use Rattle.px_meaning.specs.Says.{SaysExif}
use Rattle.px_tree.specs.Checks.{checks, FirstExifFault}
use Rattle.px_tree.specs.FaultLaws.{FaultsDecide}
use Rattle.px_tree.specs.Refused.{IsFaultyExif, IsRefused}
use Rattle.px_pictures.specs.declared.faults.MetadataKind.{MetadataKind}
use Rattle.px_pictures.specs.declared.faults.MetadataKind.TheVariants as kind
use Rattle.px_pictures.specs.declared.faults.MetadataFault.{MetadataFault}
use Rattle.px_pictures.specs.Faults.{AllExif, AllIptc, FaultAt, IsFaultyIptc, CountsAllocFailureOfFault}
use Rattle.px_pictures.specs.calls.Judging.{fault_of, ExifFails, IptcFails}

long : (b : List ℕ) → limit < length b → FirstExifFault b TooLong limit
unfolding checks
long b l = cond-false (nat_le (length b) limit) _ _ (lt-leb (length b) limit l)

-- a block that is too long is faulty
pub exif_long : (b : List ℕ) → FaultsDecide → limit < length b → IsFaultyExif b TooLong limit
exif_long b law l = record {
  first = long b l;
  is_fault = law.0 b TooLong limit (long b l);
  bounded = omega arith;
  no_meaning = λ m x. let most = x.is_block.most in omega arith;
}

module _ (AllHaveMeaning : List (List ℕ) → Type 0) (IsFaultyExif : List ℕ → Cause → ℕ → Type 0) where
  pub fault_here : (ps bs : List (List ℕ)) (b : List ℕ) (c : Cause) (p : ℕ) → ps ≡ b ∷ bs → AllHaveMeaning [] → IsFaultyExif b c p
      → FaultAt AllHaveMeaning IsFaultyExif ps 0 c p
  fault_here ps bs b c p e none h = record { before = []; block = b; after = bs; whole = e; number = refl; meaning = none; faulty = h }

  pub fault_later : (ps bs : List (List ℕ)) (b : List ℕ) (n : ℕ) (c : Cause) (p : ℕ) → ps ≡ b ∷ bs
      → ((before : List (List ℕ)) → AllHaveMeaning before → AllHaveMeaning (b ∷ before))
      → FaultAt AllHaveMeaning IsFaultyExif bs n c p
      → FaultAt AllHaveMeaning IsFaultyExif ps (1 + n) c p
  fault_later ps bs b n c p e more h = record {
    before = b ∷ h.before;
    block = h.block;
    after = h.after;
    whole = e ∙ ap (λ (xs : List (List ℕ)). b ∷ xs) h.whole;
    number = omega (arith, h.number);
    meaning = more h.before h.meaning;
    faulty = h.faulty;
  }

pub exif_none : (ps : List (List ℕ)) → ps ≡ [] → AllExif ps
exif_none ps e = subst AllExif (sym e) ([], tt)

pub exif_more : (ps bs : List (List ℕ)) (b : List ℕ) → ps ≡ b ∷ bs → ((m : Meaning) × SaysExif b m) → AllExif bs → AllExif ps
exif_more ps bs b e (m, s) (ms, h) = subst AllExif (sym e) (m ∷ ms, (s, h))

pub iptc_none : (ps : List (List ℕ)) → ps ≡ [] → AllIptc ps
iptc_none ps e = subst AllIptc (sym e) ([], tt)

pub iptc_more : (ps bs : List (List ℕ)) (b : List ℕ) → ps ≡ b ∷ bs → ((i : Record) × SaysIim b i) → AllIptc bs → AllIptc ps
iptc_more ps bs b e (i, s) (is, h) = subst AllIptc (sym e) (i ∷ is, (s, h))

-- ---- the block that is judged is faulty

pub exif_fails : (all ps bs : List (List ℕ)) (b : List ℕ) (number refused : ℕ) (e : Refusal) (f : MetadataFault) → f ≡ fault_of kind.Exif number e
    → ps ≡ b ∷ bs → IsRefused b refused e
    → ((n : ℕ) (c : Cause) (p : ℕ) → FaultAt AllExif IsFaultyExif ps n c p → FaultAt AllExif IsFaultyExif all (number + n) c p)
    → ExifFails all refused f
exif_fails all ps bs b number refused (Content c p) f q e h more =
    subst (ExifFails all refused) (sym q)
    (subst (λ (n : ℕ). FaultAt AllExif IsFaultyExif all n c p) (add-zero number)
    (more 0 c p (fault_here AllExif IsFaultyExif ps bs b c p e ([], tt) h)))
exif_fails all ps bs b number refused OutOfMemory f q e h more = subst (ExifFails all refused) (sym q) h

pub iptc_fails : (all ps bs : List (List ℕ)) (b : List ℕ) (number : ℕ) (e : Refusal) (f : MetadataFault) → f ≡ fault_of kind.Iptc number e
    → ps ≡ b ∷ bs → Refuses e (iim_checks b) → RefusesIim b 0 e
    → ((n : ℕ) (c : Cause) (p : ℕ) → FaultAt AllIptc IsFaultyIptc ps n c p → FaultAt AllIptc IsFaultyIptc all (number + n) c p)
    → IptcFails all f
iptc_fails all ps bs b number (Content c p) f q e j h more =
    let faulty : IsFaultyIptc b c p = record { first = j; is_fault = h.0; bounded = h.1; no_meaning = h.3 } in
    subst (IptcFails all) (sym q)
    (subst (λ (n : ℕ). FaultAt AllIptc IsFaultyIptc all n c p) (add-zero number)
    (more 0 c p (fault_here AllIptc IsFaultyIptc ps bs b c p e ([], tt) faulty)))
iptc_fails all ps bs b number OutOfMemory f q e j h more = absurd (omega arith)

pub fault_alloc_failure : (k : MetadataKind) (n : ℕ) (e : Refusal) (f : MetadataFault) (old new : ℕ) → f ≡ fault_of k n e
    → CountsAllocFailureInBlockBy {X = Unit {0}} (Err e) old new → CountsAllocFailureOfFault f old new
fault_alloc_failure k n (Content c p) f old new q l = subst (λ (z : MetadataFault). CountsAllocFailureOfFault z old new) (sym q) l
fault_alloc_failure k n OutOfMemory f old new q l = subst (λ (z : MetadataFault). CountsAllocFailureOfFault z old new) (sym q) l
