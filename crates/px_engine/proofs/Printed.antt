-- The results of runs that print, from the results of their parts.
use Rattle.std.proofs.Common.{◌≡◌, ℕ, Option, List, Result, Ok, Err, refl, sym, subst}
use Rattle.px_bytes.specs.Devices.{Calls, CountsFlush, Writes}
use Rattle.px_bytes.specs.Reading.{ReadsUpTo}
use Rattle.px_engine.specs.declared.error.Fault.{Fault}
use Rattle.px_engine.specs.declared.error.Fault.TheVariants.{Refused, NormalTooLong, OutOfMemory, ReadFailed, WriteFailed}
use Rattle.px_engine.specs.Files.{Said}
use Rattle.px_engine.specs.Input.{most_read, HasMeaning, IsRunFault, CountsAllocFailureInRunBy, CountsFault, CountsReads}
use Rattle.px_engine.specs.Prints.{Prints}
use Rattle.px_engine.specs.calls.Ends.{WritesText}
use Rattle.px_engine.specs.calls.Faults.{as_fault}
use Rattle.px_engine.proofs.Judged.{known_meaning, known_stops}

-- the result of a text's writer, as that of a run
pub reported_text : {A E : Type 0} (r : Result A E) (t : Result A Fault) (old new : Option (List ℕ)) (a b : Calls) (out : List ℕ)
    → t ≡ as_fault r
    → Writes r old new out → CountsFlush r a b → WritesText t old new a b out
reported_text (Ok x) t old new a b out e w n = subst (λ z. WritesText z old new a b out) (sym e) (w, n)
reported_text (Err x) t old new a b out e w n = subst (λ z. WritesText z old new a b out) (sym e) (w, n)

-- the text of the meaning is `text s`
pub writes_text_prints : {A : Type 0} (text : Said → List ℕ) (r : Result A Fault) (left left_now : Option (List ℕ)) (bytes : List ℕ)
    (s : Said)
    (old new : Option (List ℕ)) (a b : Calls)
    → ReadsUpTo left left_now most_read bytes → HasMeaning bytes s → WritesText r old new a b (text s) → Prints text r left old new
writes_text_prints text (Ok x) left left_now bytes s old new a b read h w = (s, known_meaning left left_now bytes s read h, w.0)
writes_text_prints text (Err WriteFailed) left left_now bytes s old new a b read h w = (s, known_meaning left left_now bytes s read h, w.0)
writes_text_prints text (Err (Refused cause place)) left left_now bytes s old new a b read h w = absurd w
writes_text_prints text (Err OutOfMemory) left left_now bytes s old new a b read h w = absurd w
writes_text_prints text (Err ReadFailed) left left_now bytes s old new a b read h w = absurd w
writes_text_prints text (Err NormalTooLong) left left_now bytes s old new a b read h w = absurd w

-- the bytes that were read have no meaning
pub not_printed : (A : Type 0) (text : Said → List ℕ) (fault : Fault) (left left_now : Option (List ℕ)) (bytes : List ℕ) (lacking : ℕ)
    (old : Option (List ℕ))
    → ReadsUpTo left left_now most_read bytes → IsRunFault bytes lacking fault → Prints {A = A} text (Err fault) left old old
not_printed A text (Refused cause place) left left_now bytes lacking old x h =
    (known_stops left left_now bytes lacking (Refused cause place) x h, refl)
not_printed A text OutOfMemory left left_now bytes lacking old x h = (tt, refl)
not_printed A text ReadFailed left left_now bytes lacking old x h = absurd h
not_printed A text NormalTooLong left left_now bytes lacking old x h = absurd h
not_printed A text WriteFailed left left_now bytes lacking old x h = absurd h

-- nor does a writer of texts take memory
pub no_text_alloc_failure : {A : Type 0} (r : Result A Fault) (old new : Option (List ℕ)) (a b : Calls) (sent : List ℕ) (first last : ℕ)
    → last ≡ first → WritesText r old new a b sent → CountsAllocFailureInRunBy r first last
no_text_alloc_failure (Ok x) old new a b sent first last q w = q
no_text_alloc_failure (Err WriteFailed) old new a b sent first last q w = q
no_text_alloc_failure (Err (Refused cause place)) old new a b sent first last q w = absurd w
no_text_alloc_failure (Err OutOfMemory) old new a b sent first last q w = absurd w
no_text_alloc_failure (Err ReadFailed) old new a b sent first last q w = absurd w
no_text_alloc_failure (Err NormalTooLong) old new a b sent first last q w = absurd w

-- nor does it read
pub text_reads_nothing : {A : Type 0} (r : Result A Fault) (old new : Option (List ℕ)) (a b : Calls) (sent : List ℕ)
    → WritesText r old new a b sent → (calls : Calls) → CountsReads r calls calls
text_reads_nothing (Ok x) old new a b sent w calls = refl
text_reads_nothing (Err WriteFailed) old new a b sent w calls = refl
text_reads_nothing (Err (Refused cause place)) old new a b sent w calls = absurd w
text_reads_nothing (Err OutOfMemory) old new a b sent w calls = absurd w
text_reads_nothing (Err ReadFailed) old new a b sent w calls = absurd w
text_reads_nothing (Err NormalTooLong) old new a b sent w calls = absurd w

-- nor does judging
pub fault_reads_nothing : (fault : Fault) (bytes : List ℕ) (lacking : ℕ) → IsRunFault bytes lacking fault
    → (calls : Calls) → CountsFault fault calls calls
fault_reads_nothing (Refused cause place) bytes lacking h calls = refl
fault_reads_nothing OutOfMemory bytes lacking h calls = refl
fault_reads_nothing ReadFailed bytes lacking h calls = absurd h
fault_reads_nothing NormalTooLong bytes lacking h calls = absurd h
fault_reads_nothing WriteFailed bytes lacking h calls = absurd h
