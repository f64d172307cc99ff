-- The meanings of blocks and files, from the results of reading them.
use Rattle.std.proofs.Common.{◌≡◌, ◌<◌, ℕ, Option, Some, None, List, length, Result, Ok, Err, refl, sym, subst, arith}
use Rattle.std.specs.Prelude.{IfOk}
use Rattle.px_bytes.specs.Numbers.{AreBytes}
use Rattle.px_bytes.specs.declared.Cause.{Cause}
use Rattle.px_bytes.specs.declared.Cause.TheVariants.{TooLong}
use Rattle.px_bytes.specs.declared.Refusal.{Refusal}
use Rattle.px_bytes.specs.declared.Refusal.TheVariants as refusal
use Rattle.px_bytes.specs.Checks.{CountsAllocFailureInBlockBy}
use Rattle.px_bytes.specs.Parts.{limit}
use Rattle.px_bytes.specs.Reading.{ReadsUpTo, ConsumesAtMost}
use Rattle.px_iim.specs.Group.{Record, IsRecord}
use Rattle.px_iim.specs.Record.{SaysIim}
use Rattle.px_iim.specs.lemmas.BoundLaws as iim
use Rattle.px_meaning.specs.Tree.{Meaning}
use Rattle.px_meaning.specs.Says.{SaysExif}
use Rattle.px_meaning.specs.Writable.{IsWritable}
use Rattle.px_layout.specs.Laws.{NormalBound}
use Rattle.px_tree.specs.FaultLaws as tree_laws
use Rattle.px_engine.specs.declared.kind.BlockKind.TheVariants as kind
use Rattle.px_engine.specs.Files.{Said, Exif, Iim, FirstIn}
use Rattle.px_engine.specs.declared.error.Fault.{Fault}
use Rattle.px_engine.specs.declared.error.Fault.TheVariants.{Refused, NormalTooLong, OutOfMemory, ReadFailed, WriteFailed}
use Rattle.px_engine.specs.Input.{most_read, HasMeaningAs, IsFaultyIn, HasMeaning, IsFaulty, IsRefused, IsRunFault, IsReadFault}
use Rattle.px_engine.specs.Input.{CountsAllocFailureOfFault}
use Rattle.px_engine.specs.calls.Kinds.{HasMeaningOfKind}
use Rattle.px_engine.specs.Runs.{KnownMeaning, Stops}
use Rattle.px_engine.specs.calls.Faults.{refused}
use Rattle.px_engine.specs.lemmas.FileLaws as file
use Rattle.px_engine.specs.Laws.{taken}

-- ---- a block

pub iim_has_meaning : (b : List ℕ) (i : Record) → SaysIim b i → IsRecord i → HasMeaningAs kind.Iim b (Iim i)
iim_has_meaning b i x r = record { means = x; fits = r; bounded = iim.normal_bound b i x }

pub exif_judged : {X : Type 0} (b block : List ℕ) → block ≡ b → NormalBound → AreBytes b → (r : Result X Refusal)
    → IfOk r (λ x. (m : Meaning) × SaysExif block m × IsWritable m) → IfOk r (λ x. HasMeaningOfKind kind.Exif b)
exif_judged b block is bound bytes (Ok x) h =
    let (m, t, f) = h in
    let s = subst (λ z. SaysExif z m) is t in
    (Exif m, record { means = s; fits = f; bounded = bound b m bytes s }, refl)
exif_judged b block is bound bytes (Err e) h = tt

pub exif_long : (b : List ℕ) → tree_laws.FaultsDecide → limit < length b → IsFaultyIn kind.Exif b TooLong limit
exif_long b law l =
    let first : FirstIn kind.Exif b TooLong limit = file.long_in b kind.Exif l in
    record {
      first = first;
      is_fault = law.0 b TooLong limit first;
      bounded = omega arith;
      no_meaning = λ s x. let m = file.short_in b kind.Exif s x in omega arith;
    }

-- ---- the whole file, from the bytes that are read of it

whole_has_meaning : (f : List ℕ) (s : Said) → HasMeaning (taken f) s → HasMeaning f s
whole_has_meaning f s h = subst (λ z. HasMeaning z s) (file.meaning_whole f s h.means) h

whole_faulty : (f : List ℕ) (c : Cause) (p : ℕ) → IsFaulty (taken f) c p → IsFaulty f c p
whole_faulty f c p h =
    record {
      first = (file.taken_decides.1 f c p).0 h.first;
      is_fault = file.fault_whole f c p h.first h.is_fault;
      bounded = h.bounded;
      no_meaning = λ s x. h.no_meaning s ((file.taken_decides.0 f s).1 x);
    }

pub refused_is_no_meaning : (bytes : List ℕ) (lacking : ℕ) (e : Refusal) (fault : Fault) → fault ≡ refused e → IsRefused bytes lacking e
    → IsRunFault bytes lacking fault
refused_is_no_meaning bytes lacking (refusal.Content cause place) fault q h = subst (IsRunFault bytes lacking) (sym q) h
refused_is_no_meaning bytes lacking refusal.OutOfMemory fault q h = subst (IsRunFault bytes lacking) (sym q) h

pub refused_alloc_failure : (e : Refusal) (fault : Fault) (old new : ℕ) → fault ≡ refused e
    → CountsAllocFailureInBlockBy {X = Unit {0}} (Err e) old new
    → CountsAllocFailureOfFault fault old new
refused_alloc_failure (refusal.Content cause place) fault old new q h = subst (λ z. CountsAllocFailureOfFault z old new) (sym q) h
refused_alloc_failure refusal.OutOfMemory fault old new q h = subst (λ z. CountsAllocFailureOfFault z old new) (sym q) h

-- ---- the bytes of a reader

pub known_meaning : (old new : Option (List ℕ)) (bytes : List ℕ) (s : Said) → ReadsUpTo old new most_read bytes → HasMeaning bytes s
    → KnownMeaning old s
known_meaning None new bytes s r h = tt
known_meaning (Some f) new bytes s r h = whole_has_meaning f s (subst (λ z. HasMeaning z s) r.0 h)

pub known_stops : (old new : Option (List ℕ)) (bytes : List ℕ) (lacking : ℕ) (fault : Fault) → ReadsUpTo old new most_read bytes
    → IsRunFault bytes lacking fault → Stops fault old
known_stops None new bytes lacking (Refused cause place) r h = (h.bounded, tt)
known_stops (Some f) new bytes lacking (Refused cause place) r h =
    (h.bounded, whole_faulty f cause place (subst (λ z. IsFaulty z cause place) r.0 h))
known_stops old new bytes lacking OutOfMemory r h = tt
known_stops old new bytes lacking ReadFailed r h = absurd h
known_stops old new bytes lacking NormalTooLong r h = absurd h
known_stops old new bytes lacking WriteFailed r h = absurd h

pub read_fails : (fault : Fault) (old : Option (List ℕ)) → IsReadFault fault → Stops fault old
read_fails (Refused cause place) old h = absurd h
read_fails OutOfMemory old h = tt
read_fails ReadFailed old h = tt
read_fails NormalTooLong old h = absurd h
read_fails WriteFailed old h = absurd h

pub consumes_most : (old new : Option (List ℕ)) (bytes : List ℕ) → ReadsUpTo old new most_read bytes → ConsumesAtMost old new most_read
consumes_most None new bytes r = tt
consumes_most (Some f) new bytes r = (most_read, omega arith, r.1)

pub consumes_none : (old : Option (List ℕ)) → ConsumesAtMost old old most_read
consumes_none None = tt
consumes_none (Some f) = (0, omega arith, refl)

pub read_as : (old new : Option (List ℕ)) (xs ys : List ℕ) → ys ≡ xs → ReadsUpTo old new most_read xs → ReadsUpTo old new most_read ys
read_as old new xs ys e r = subst (λ z. ReadsUpTo old new most_read z) (sym e) r
