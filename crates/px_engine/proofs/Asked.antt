-- How much a block in a file requests, and a file that was read.
use Rattle.std.proofs.Common.{◌≡◌, ◌≤◌, ◌+◌, ◌*◌, ℕ, Bool, true, false, List, [], Option, Some, None, length, drop, take, ap, ◌∙◌}
use Rattle.std.proofs.Common.{if◌then◌else◌, arith, inl, inr, Result, Ok, Err, length-append}
use Rattle.std.proofs.lemmas.List.{length-drop, length-take}
use Rattle.std.proofs.Math.Nat.{mul-le-mul_right}
use Rattle.px_bytes.specs.Devices.{Calls, Writes, CountsFlush}
use Rattle.px_bytes.specs.calls.Grown.{Grown, grown_bytes}
use Rattle.px_bytes.specs.Reading.{ReadsUpTo, readable, read_request}
use Rattle.px_engine.specs.Asking.{block_request, run_request, text_request}
use Rattle.px_engine.specs.Files.{is_prefixed, block_of}
use Rattle.px_engine.specs.Input.{most_read}

-- a block is no longer than its file
pub block_within : (f : List ℕ) → length (block_of f) ≤ length f
unfolding block_of
block_within f = go (is_prefixed f)
  where
    go : (prefixed : Bool) → length (if prefixed then drop 6 f else f) ≤ length f
    go true = omega (arith, length-drop 6 f)
    go false = omega arith

pub request_within : (f : List ℕ) → block_request (length (block_of f)) ≤ block_request (length f)
request_within f = let within = block_within f in omega arith

-- no more is read than a reader can return
read_within : (old new : Option (List ℕ)) (most : ℕ) (bs : List ℕ) → ReadsUpTo old new most bs → length bs ≤ readable old most
read_within None new most bs l = l
read_within (Some xs) new most bs h =
    let whole = ap (λ (ys : List ℕ). length ys) h.0 in
    omega (arith, whole, length-take {A = ℕ} most xs)

-- the bytes were read, and then a call requested no more than their block does
pub run_within : (old new : Option (List ℕ)) (bs : List ℕ) (first read now : ℕ) → ReadsUpTo old new most_read bs
    → read ≤ first + read_request (readable old most_read) → now ≤ read + block_request (length bs) → now ≤ first + run_request old
run_within old new bs first read now found asked more =
    let within = read_within old new most_read bs found in
    omega arith

-- ---- a text in memory

text_within : {A E : Type 0} (r : Result A E) (old new text : List ℕ) → length old ≡ 0 → Writes r (Some old) (Some new) text
    → length new ≤ length text
text_within (Ok x) old new text none w =
    let all = ap (λ (xs : List ℕ). length xs) w ∙ length-append old text in omega arith
text_within (Err e) old new text none w =
    let n = w.0 in
    let all = ap (λ (xs : List ℕ). length xs) w.2 ∙ length-append old (take n text) in
    omega (arith, all, none, length-take {A = ℕ} n text)

one_failure : {A E : Type 0} (r : Result A E) (old new : Calls) → CountsFlush r old new → new.failed ≤ old.failed + 1
one_failure (Ok x) old new e = let failed = ap (λ (calls : Calls). calls.failed) e in omega arith
one_failure (Err x) old new (inl e) = let failed = ap (λ (calls : Calls). calls.failed) e in omega arith
one_failure (Err x) old new (inr e) = let failed = ap (λ (calls : Calls). calls.failed) e in omega arith

pub text_asks : {A E : Type 0} (r : Result A E) (old new : Grown) (text : List ℕ)
    → old ≡ record { taken = []; failed_allocations = 0; flushes = 0; since = 0 } → Writes r (Some old.taken) (Some new.taken) text
    → CountsFlush r (record { failed = old.failed_allocations; flushes = old.flushes })
    (record { failed = new.failed_allocations; flushes = new.flushes })
    → grown_bytes new ≤ text_request (length text)
text_asks r old new text start wrote counted =
    let none = ap (λ (g : Grown). length g.taken) start in
    let zero = ap (λ (g : Grown). g.failed_allocations) start in
    let within = text_within r old.taken new.taken text none wrote in
    let few = one_failure r (record { failed = old.failed_allocations; flushes = old.flushes })
    (record { failed = new.failed_allocations; flushes = new.flushes }) counted in
    let failed = mul-le-mul_right {m = new.failed_allocations} {n = 1} (2 * (length new.taken + 65536)) (omega arith) in
    omega (arith, within, failed)
