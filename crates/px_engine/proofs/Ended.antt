-- The result of a run that writes, from the results of its parts.
use Rattle.std.proofs.Common.{◌≡◌, ◌<◌, ◌≤◌, ◌*◌, ℕ, Option, Some, None, List, length, Result, Ok, Err, IfOk, IfErr, IfSome, refl}
use Rattle.std.proofs.Common.{sym, subst, arith}
use Rattle.px_bytes.specs.Devices.{Calls, IsShort, SendsOnce}
use Rattle.px_bytes.specs.Parts.{limit}
use Rattle.px_bytes.specs.Reading.{ReadsUpTo}
use Rattle.px_engine.specs.declared.error.Fault.{Fault}
use Rattle.px_engine.specs.declared.error.Fault.TheVariants.{Refused, NormalTooLong, OutOfMemory, ReadFailed, WriteFailed}
use Rattle.px_engine.specs.declared.error.Side.TheVariants.{First}
use Rattle.px_engine.specs.declared.error.CompareFault.{CompareFault}
use Rattle.px_engine.specs.declared.kind.BlockKind.{BlockKind}
use Rattle.px_engine.specs.Files.{Said, normal, block_of}
use Rattle.px_engine.specs.Input.{most_read, CountsAllocFailureOfFault, CountsAllocFailureInRunBy, HasMeaning, IsRunFault, OnSide}
use Rattle.px_engine.specs.Runs.{KnownMeaning, Stops, Checks, FormOnce, Normalises, Compares}
use Rattle.px_engine.specs.Slices.{IsKindOf, IsFormOf, IsUnwritten}
use Rattle.px_engine.specs.calls.Ends.{IsUnformed, WritesFormOf}
use Rattle.px_engine.proofs.Judged.{known_meaning, known_stops}

long_normal_of_half : (file : Option (List ℕ)) (s : Said) → KnownMeaning file s → limit < length (normal s)
    → IfSome file (λ f. limit < 2 * length (block_of f))
long_normal_of_half None s h l = tt
long_normal_of_half (Some f) s h l = let b = h.bounded in omega arith

pub writes_meaning_normalises : (r : Result ℕ Fault) (left left_now : Option (List ℕ)) (bytes : List ℕ) (s : Said) (old new : Option (List ℕ))
    (a b : Calls) →
    ReadsUpTo left left_now most_read bytes → HasMeaning bytes s → WritesFormOf r old new a b s → Normalises r left old new
writes_meaning_normalises (Ok n) left left_now bytes s old new a b x h w = (s, known_meaning left left_now bytes s x h, w.0, w.1, w.2)
writes_meaning_normalises (Err NormalTooLong) left left_now bytes s old new a b x h w =
    let k = known_meaning left left_now bytes s x h in (s, k, w.0, long_normal_of_half left s k w.0, w.1)
writes_meaning_normalises (Err WriteFailed) left left_now bytes s old new a b x h w = (s, known_meaning left left_now bytes s x h, w.0, w.1)
writes_meaning_normalises (Err OutOfMemory) left left_now bytes s old new a b x h w = absurd w
writes_meaning_normalises (Err ReadFailed) left left_now bytes s old new a b x h w = absurd w
writes_meaning_normalises (Err (Refused cause place)) left left_now bytes s old new a b x h w = absurd w

-- a short form was one write
pub form_once : {E W : Type 0} (wrote : W → List ℕ → Result ℕ E → W → Type 0) (flushed : W → W → Type 0) (r : Result ℕ Fault)
    (left left_now : Option (List ℕ)) (bytes : List ℕ) (s : Said) (old new : W) → ReadsUpTo left left_now most_read bytes
    → HasMeaning bytes s → (IsShort (length (normal s)) → SendsOnce wrote flushed old new (normal s))
    → FormOnce wrote flushed r left old new
form_once wrote flushed (Ok n) left left_now bytes s old new x h once = (s, known_meaning left left_now bytes s x h, once)
form_once wrote flushed (Err e) left left_now bytes s old new x h once = tt

-- a writer allocates nothing
pub no_alloc_failure : (r : Result ℕ Fault) (old new : Option (List ℕ)) (a b : Calls) (s : Said) (first last : ℕ) → last ≡ first
    → WritesFormOf r old new a b s → CountsAllocFailureInRunBy r first last
no_alloc_failure (Ok n) old new a b s first last q w = q
no_alloc_failure (Err NormalTooLong) old new a b s first last q w = q
no_alloc_failure (Err WriteFailed) old new a b s first last q w = q
no_alloc_failure (Err OutOfMemory) old new a b s first last q w = absurd w
no_alloc_failure (Err ReadFailed) old new a b s first last q w = absurd w
no_alloc_failure (Err (Refused cause place)) old new a b s first last q w = absurd w

-- an allocation that failed is the first of the run, if none failed before it
pub later_alloc_failure : (fault : Fault) (first mid last : ℕ) → mid ≡ first → CountsAllocFailureOfFault fault mid last
    → CountsAllocFailureOfFault fault first last
later_alloc_failure fault first mid last q h = subst (λ z. CountsAllocFailureOfFault fault z last) q h

-- the bytes that were read have no meaning
pub not_normalised : (fault : Fault) (left left_now : Option (List ℕ)) (bytes : List ℕ) (lacking : ℕ) (old : Option (List ℕ)) →
    ReadsUpTo left left_now most_read bytes → IsRunFault bytes lacking fault → Normalises (Err fault) left old old
not_normalised (Refused cause place) left left_now bytes lacking old x h =
    (known_stops left left_now bytes lacking (Refused cause place) x h, refl)
not_normalised OutOfMemory left left_now bytes lacking old x h = (tt, refl)
not_normalised ReadFailed left left_now bytes lacking old x h = absurd h
not_normalised NormalTooLong left left_now bytes lacking old x h = absurd h
not_normalised WriteFailed left left_now bytes lacking old x h = absurd h

pub kind_of_checks : (r : Result BlockKind Fault) (left left_now : Option (List ℕ)) (bytes : List ℕ) (lacking : ℕ)
    → ReadsUpTo left left_now most_read bytes
    → IfOk r (IsKindOf bytes) → IfErr r (IsRunFault bytes lacking) → Checks r left
kind_of_checks (Ok kind) left left_now bytes lacking x h k = (h.0, known_meaning left left_now bytes h.0 x h.1, h.2)
kind_of_checks (Err fault) left left_now bytes lacking x h k = known_stops left left_now bytes lacking fault x k

-- a form in memory
pub form_formed : {V : Type 0} (items : V → List ℕ) (r : Result V Fault) (f : List ℕ) (s : Said) → HasMeaning f s
    → IfOk r (λ v. (items v ≡ normal s) × (length (items v) ≤ limit)) → IfOk r (λ v. (t : Said) × IsFormOf f t (items v))
form_formed items (Ok v) f s h k = (s, (h, k.0, k.1))
form_formed items (Err e) f s h k = tt

pub form_unwritten : {V : Type 0} (r : Result V Fault) (f : List ℕ) (s : Said) (lacking : ℕ) → HasMeaning f s
    → IfErr r (IsUnformed s lacking) → IfErr r (IsUnwritten f lacking)
form_unwritten (Ok v) f s lacking h k = tt
form_unwritten (Err NormalTooLong) f s lacking h k = (s, h, k, long_normal_of_half (Some f) s h k)
form_unwritten (Err OutOfMemory) f s lacking h k = k.0
form_unwritten (Err (Refused cause place)) f s lacking h k = absurd k
form_unwritten (Err ReadFailed) f s lacking h k = absurd k
form_unwritten (Err WriteFailed) f s lacking h k = absurd k

-- a call with memory of its own
pub own_memory : {A E : Type 0} (P : ℕ → E → Type 0) (r : Result A E) (lacking : ℕ) → IfErr r (P lacking)
    → IfErr r (λ e. (refused : ℕ) × P refused e)
own_memory P (Ok x) lacking h = tt
own_memory P (Err e) lacking h = (lacking, h)

-- the fault of one of two files
pub first_stops : (e : CompareFault) (first second : Option (List ℕ)) → e.side ≡ First → Stops e.fault first → Compares (Err e) first second
first_stops e first second q h =
    subst (λ z. OnSide z (Stops e.fault first) ((s : Said) × KnownMeaning first s) (Stops e.fault second)) (sym q) h
