-- The result of a run over two files, from that of reading and judging the second one.
use Rattle.std.proofs.Common.{◌≡◌, ℕ, Bool, Option, List, Result, Ok, Err, IfOk, IfErr, refl, sym, subst}
use Rattle.std.specs.Prelude.{⊤}
use Rattle.px_bytes.specs.Devices.{Calls}
use Rattle.px_bytes.specs.Reading.{ReadsUpTo}
use Rattle.px_engine.specs.declared.error.Fault.{Fault}
use Rattle.px_engine.specs.declared.error.Fault.TheVariants.{Refused, NormalTooLong, OutOfMemory, ReadFailed, WriteFailed}
use Rattle.px_engine.specs.declared.error.Side.TheVariants.{First}
use Rattle.px_engine.specs.declared.error.CompareFault.{CompareFault}
use Rattle.px_engine.specs.Files.{Said}
use Rattle.px_engine.specs.Input.{most_read, HasMeaning, IsRunFault, OnSide, CountsAllocFailureInPairBy, CountsFault}
use Rattle.px_engine.specs.Runs.{KnownMeaning, Stops, Compares, Untouched, CountsSides}
use Rattle.px_engine.specs.Slices.{IsSameMeaning, IsRunFaultAt}
use Rattle.px_engine.specs.calls.Second.{ComparesSecond, CountsSecond, IsSameAsFirst}
use Rattle.px_engine.proofs.Judged.{known_meaning, known_stops}

pub compares_from_second : (r : Result Bool CompareFault) (first second : Option (List ℕ)) (s : Said) → KnownMeaning first s
    → ComparesSecond r s second
    → Compares r first second
compares_from_second (Ok same) first second s k h = (s, h.0, k, h.1, h.2)
compares_from_second (Err e) first second s k h =
    subst (λ z. OnSide z (Stops e.fault first) ((t : Said) × KnownMeaning first t) (Stops e.fault second)) (sym h.0) ((s, k), h.1)

-- the first file has no meaning: the second reader is not called
pub not_asked : {R : Type 0} (e : CompareFault) (second : R) → e.side ≡ First → Untouched {R = R} (Err e) second second
not_asked {R} e second h = subst (λ z. OnSide z (second ≡ second) ⊤ ⊤) (sym h) refl

-- the second reader may have moved: the fault is not of the first file
pub compares_untouched : {R : Type 0} (r : Result Bool CompareFault) (old new : R) (second : Option (List ℕ)) (s : Said)
    → ComparesSecond r s second
    → Untouched r old new
compares_untouched (Ok same) old new second s h = tt
compares_untouched (Err e) old new second s h = subst (λ z. OnSide z (new ≡ old) ⊤ ⊤) (sym h.0) (tt, tt)

pub compares_counts_sides : (r : Result Bool CompareFault) (a b c d : Calls) (second : Option (List ℕ)) (s : Said) → b ≡ a
    → ComparesSecond r s second
    → CountsSecond r c d → CountsSides r a b c d
compares_counts_sides (Ok same) a b c d second s e h k = (e, k)
compares_counts_sides (Err fault) a b c d second s e h k =
    subst (λ z. OnSide z (CountsFault fault.fault a b × (d ≡ c)) (b ≡ a) (CountsFault fault.fault c d)) (sym h.0) (e, k)

pub compared_alloc_failure : (r : Result Bool CompareFault) (first mid last : ℕ) → mid ≡ first → CountsAllocFailureInPairBy r mid last
    → CountsAllocFailureInPairBy r first last
compared_alloc_failure r first mid last e h = subst (λ z. CountsAllocFailureInPairBy r z last) e h

-- ---- the second file, read into memory and then judged

pub second_read : (r : Result Bool CompareFault) (s : Said) (left left_now : Option (List ℕ)) (bytes : List ℕ) (lacking : ℕ)
    → ReadsUpTo left left_now most_read bytes → IsSameAsFirst r s bytes lacking → ComparesSecond r s left
second_read (Ok same) s left left_now bytes lacking x h = (h.0, known_meaning left left_now bytes h.0 x h.1, h.2)
second_read (Err e) s left left_now bytes lacking x h = (h.0, known_stops left left_now bytes lacking e.fault x h.1)

counted_fault : (fault : Fault) (bytes : List ℕ) (lacking : ℕ) (a b : Calls) → b ≡ a → IsRunFault bytes lacking fault → CountsFault fault a b
counted_fault (Refused cause place) bytes lacking a b e h = e
counted_fault OutOfMemory bytes lacking a b e h = e
counted_fault ReadFailed bytes lacking a b e h = absurd h
counted_fault NormalTooLong bytes lacking a b e h = e
counted_fault WriteFailed bytes lacking a b e h = e

pub second_counted : (r : Result Bool CompareFault) (s : Said) (bytes : List ℕ) (lacking : ℕ) (a b : Calls) → b ≡ a
    → IsSameAsFirst r s bytes lacking → CountsSecond r a b
second_counted (Ok same) s bytes lacking a b e h = e
second_counted (Err fault) s bytes lacking a b e h = counted_fault fault.fault bytes lacking a b e h.1

-- ---- two files in memory

pub means_same : (r : Result Bool CompareFault) (f g : List ℕ) (s : Said) (lacking : ℕ) → HasMeaning f s → IsSameAsFirst r s g lacking
    → IfOk r (IsSameMeaning f g)
means_same (Ok same) f g s lacking x h = (s, h.0, x, h.1, h.2)
means_same (Err e) f g s lacking x h = tt

pub second_no_meaning : (r : Result Bool CompareFault) (f g : List ℕ) (s : Said) (lacking : ℕ) → HasMeaning f s → IsSameAsFirst r s g lacking
    → IfErr r (IsRunFaultAt f g lacking)
second_no_meaning (Ok same) f g s lacking x h = tt
second_no_meaning (Err e) f g s lacking x h =
    subst (λ z. OnSide z (IsRunFault f lacking e.fault) ((t : Said) × HasMeaning f t) (IsRunFault g lacking e.fault)) (sym h.0) ((s, x), h.1)
