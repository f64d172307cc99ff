-- A slice that is filled with a form of exactly its length.
use Rattle.std.proofs.Common.{◌≡◌, ◌≤◌, ◌+◌, ℕ, Bool, List, ◌∷◌, length, take, nat_lt, true, false, if◌then◌else◌}
use Rattle.std.proofs.Common.{Some, Result, Ok, Err, arith, refl, sym, ◌∙◌, ap}
use Rattle.std.proofs.lemmas.Bool.{ltb-false}
use Rattle.std.proofs.lemmas.List.{take_all, length-take, length-take-le}
use Rattle.std.proofs.Math.Nat.{min-le_left}
use Rattle.px_bytes.specs.Devices.{Calls, Counts, Writes}
use Rattle.px_engine.specs.declared.normal.Filling.{Filling}
use Rattle.px_engine.specs.calls.Filled.{reported_in, calls_in, refused_in}

no_refusal : (t : Bool) (n : ℕ) → n ≡ 0 → (if t then 0 else n) ≡ 0
no_refusal true n z = refl
no_refusal false n z = z

-- one failed call means that the slice is full
is_full : (filled size refusals : ℕ) → (if nat_lt filled size then 0 else refusals) ≡ 1 → size ≤ filled
is_full filled size refusals c = elim (nat_lt filled size) as (λ t. nat_lt filled size ≡ t → (if t then 0 else refusals) ≡ 1 → size ≤ filled)
    [ true ↦ λ e q. absurd (omega (arith, q)) | false ↦ λ e q. ltb-false filled size e ] refl c

-- a prefix of it that is as long as all of it
all_of : (filled : ℕ) (now form : List ℕ) → take filled now ≡ form → length now ≡ length form → now ≡ form
all_of filled now form t l =
    let m = ap (λ (z : List ℕ). length z) t in
    let cut = length-take filled now in
    let least = min-le_left filled (length now) in
    sym (take_all filled now (omega arith)) ∙ t

-- The writer began at the start of a slice of the form's length, and found it full if a call failed. So it has written the whole
-- form.
pub filling_now_form : {A E : Type 0} (r : Result A E) (f g : Filling) (slice : ℕ) (old form : List ℕ) → length old ≡ length form
    → f.space.ghost_name ≡ slice → f.space.now ≡ old → f.filled ≡ 0 → f.refusals ≡ 0
    → Writes r (Some (reported_in f)) (Some (reported_in g)) form → Counts r (calls_in f) (calls_in g)
    → (g.space.ghost_name ≡ slice) × (g.space.now ≡ form)
filling_now_form (Ok x) f g slice old form fits s o h z w c =
    let all : reported_in g ≡ slice ∷ length old ∷ form = rw (h, o, s) at w in
    let front : take g.filled g.space.now ≡ form = cc in
    let size : length g.space.now ≡ length old = cc in
    (cc, all_of g.filled g.space.now form front (size ∙ fits))
filling_now_form (Err x) f g slice old form fits s o h z w c =
    let n = w.0 in
    let all : reported_in g ≡ slice ∷ length old ∷ take n form = rw (h, o, s) at w.2 in
    let front : take g.filled g.space.now ≡ take n form = cc in
    let size : length g.space.now ≡ length old = cc in
    let none = no_refusal (nat_lt f.filled (length f.space.now)) f.refusals z in
    let counted : refused_in g ≡ refused_in f + 1 = ap (λ (k : Calls). k.failed) c in
    let last = is_full g.filled (length g.space.now) g.refusals (omega arith) in
    let whole : g.space.now ≡ take n form = sym (take_all g.filled g.space.now last) ∙ front in
    let cut = length-take-le n form w.1 in
    let long = ap (λ (z : List ℕ). length z) whole in
    (cc, whole ∙ take_all n form (omega arith))
