-- How many bytes lists of chunks ask for, and pieces that are made in memory.
use Rattle.std.proofs.Common.{◌≡◌, ◌≤◌, ◌<◌, ◌+◌, ◌-◌, ◌*◌, ◌++◌, ℕ, Option, Some, List, [], ◌∷◌, length, drop, take, filter_map, inl, inr}
use Rattle.std.proofs.Common.{refl, sym, ap, ◌∙◌, arith, length-append, Result, Ok, Err, is_ok, if◌then◌else◌, OnOk}
use Rattle.std.specs.Prelude.{IsErr, ◌↔◌, false}
use Rattle.std.specs.Option.{option_to_list}
use Rattle.std.specs.List.{slice_get}
use Rattle.std.proofs.lemmas.Bool.{cases_lt, both_ways}
use Rattle.std.proofs.lemmas.List.{length-take}
use Rattle.std.proofs.Math.Nat.{mul-le-mul_right}
use Rattle.px_bytes.specs.Allocations.{enlarged}
use Rattle.px_bytes.specs.Devices.{Calls, Writes, Counts}
use Rattle.px_bytes.specs.calls.Grown.{Grown, grown_bytes}
use Rattle.px_meaning.specs.declared.Dir.TheVariants.{Main, Exif, Interop, Gps, Thumb}
use Rattle.px_meaning.specs.Tree.{Meaning}
use Rattle.px_meaning.specs.Writable.{items}
use Rattle.px_layout.specs.declared.chunks.Chunk.TheVariants.{Strip}
use Rattle.px_layout.specs.Chunks.{chunks_of_dir, strip_chunks, thumb_chunks, chunks}
use Rattle.px_layout.specs.lemmas.WalkLaws.{values_more, strips_more, chunks_gathered}

-- ---- one chunk more in a list

chunk_pushed : {A : Type 0} (len capacity capacity_now asked asked_now : ℕ) → len ≤ capacity
    → (len + 1 ≤ capacity → A × (capacity_now ≡ capacity) × (asked_now ≡ asked))
    → (capacity < len + 1 → asked_now ≡ asked + enlarged capacity (len + 1) * 16)
    → (capacity < len + 1 → capacity_now ≡ enlarged capacity (len + 1))
    → asked_now + 16 * (4 * (len + 1) - 2 * capacity_now) ≤ asked + 16 * (4 * len - 2 * capacity) + 64
chunk_pushed len capacity capacity_now asked asked_now few fits grows larger = elim (cases_lt capacity (len + 1)) [
  | inl l ↦ let now = grows l in let wide = larger l in omega (arith, few, now, wide)
  | inr l ↦ let now = (fits l).2 in let same = (fits l).1 in omega (arith, few, now, same)
]

pub chunk_pays : {A B E : Type 0} (r : Result A E) (len capacity len_now capacity_now asked asked_now : ℕ) → len ≤ capacity
    → len_now ≡ (if is_ok r then len + 1 else len) → (len + 1 ≤ capacity → B × (capacity_now ≡ capacity) × (asked_now ≡ asked))
    → (capacity < len + 1 → asked_now ≡ asked + enlarged capacity (len + 1) * 16)
    → (capacity < len + 1 → OnOk r (capacity_now ≡ enlarged capacity (len + 1)))
    → OnOk r (asked_now + 16 * (4 * len_now - 2 * capacity_now) ≤ asked + 16 * (4 * len - 2 * capacity) + 64)
chunk_pays (Ok x) len capacity len_now capacity_now asked asked_now few longer fits grows larger =
    let paid = chunk_pushed len capacity capacity_now asked asked_now few fits grows larger in omega (arith, paid, longer)
chunk_pays (Err e) len capacity len_now capacity_now asked asked_now few longer fits grows larger = tt

pub chunk_asks : {A B : Type 0} (len capacity asked asked_now : ℕ) → len ≤ capacity → (len + 1 ≤ capacity → A × B × (asked_now ≡ asked))
    → (capacity < len + 1 → asked_now ≡ asked + enlarged capacity (len + 1) * 16)
    → asked_now ≤ asked + 16 * (4 * len - 2 * capacity) + 64
chunk_asks len capacity asked asked_now few fits grows = elim (cases_lt capacity (len + 1)) [
  | inl l ↦ let now = grows l in omega (arith, few, now)
  | inr l ↦ let now = (fits l).2 in omega (arith, few, now)
]

-- ---- how many chunks there are

pub values_counted : {X Y : Type 0} (h : X → Option Y) (xs : List X) (i : ℕ) (x : X) → slice_get xs i ≡ Some x
    → length (filter_map h (drop i xs)) ≡ length (option_to_list (h x)) + length (filter_map h (drop (i + 1) xs))
values_counted h xs i x e =
    sym (ap length (values_more h xs i x [] (option_to_list (h x)) e refl))
    ∙ length-append (option_to_list (h x)) (filter_map h (drop (i + 1) xs))

pub strips_counted : (xs : List (List ℕ)) (i : ℕ) (x : List ℕ) → slice_get xs i ≡ Some x
    → length (strip_chunks i (drop i xs)) ≡ 1 + length (strip_chunks (i + 1) (drop (i + 1) xs))
strips_counted xs i x e = let all = ap length (strips_more xs i x [] ((Strip i, length x) ∷ []) e refl) in omega (arith, all)

pub chunks_counted : (m : Meaning) → length (chunks m) ≡ length (chunks_of_dir Main (items m Main))
    + length (chunks_of_dir Exif (items m Exif)) + length (chunks_of_dir Interop (items m Interop))
    + length (chunks_of_dir Gps (items m Gps)) + length (chunks_of_dir Thumb (items m Thumb)) + length (thumb_chunks m.thumb)
chunks_counted m =
    let a = chunks_of_dir Main (items m Main) in
    let b = chunks_of_dir Exif (items m Exif) in
    let c = chunks_of_dir Interop (items m Interop) in
    let d = chunks_of_dir Gps (items m Gps) in
    let e = chunks_of_dir Thumb (items m Thumb) in
    let t = thumb_chunks m.thumb in
    let all = ap length (chunks_gathered m [] a (a ++ b) ((a ++ b) ++ c) (((a ++ b) ++ c) ++ d) ((((a ++ b) ++ c) ++ d) ++ e)
    refl refl refl refl refl) in
    omega (
      arith,
      all,
      length-append ((((a ++ b) ++ c) ++ d) ++ e) t,
      length-append (((a ++ b) ++ c) ++ d) e,
      length-append ((a ++ b) ++ c) d,
      length-append (a ++ b) c,
      length-append a b,
    )

-- ---- a piece in memory

abbrev calls_of : Grown → Calls
calls_of g = record { failed = g.failed_allocations; flushes = g.flushes }

piece_within : {A E : Type 0} (r : Result A E) (old new piece : List ℕ) → length old ≡ 0 → Writes r (Some old) (Some new) piece
    → length new ≤ length piece
piece_within (Ok x) old new piece none w =
    let all = ap (λ (xs : List ℕ). length xs) w ∙ length-append old piece in omega arith
piece_within (Err e) old new piece none w =
    let n = w.0 in
    let all = ap (λ (xs : List ℕ). length xs) w.2 ∙ length-append old (take n piece) in
    omega (arith, all, none, length-take {A = ℕ} n piece)

one_failure : {A E : Type 0} (r : Result A E) (old new : Calls) → Counts r old new → new.failed ≤ old.failed + 1
one_failure (Ok x) old new e = let failed = ap (λ (calls : Calls). calls.failed) e in omega arith
one_failure (Err x) old new e = let failed = ap (λ (calls : Calls). calls.failed) e in omega arith

module _ {A E : Type 0} (r : Result A E) (old new : Grown) (piece : List ℕ)
    (start : old ≡ record { taken = []; failed_allocations = 0; flushes = 0; since = 0 })
    (wrote : Writes r (Some old.taken) (Some new.taken) piece)
    (counted : Counts r (calls_of old) (calls_of new)) where
  within : length new.taken ≤ length piece
  within = piece_within r old.taken new.taken piece (ap (λ (g : Grown). length g.taken) start) wrote

  pub piece_asks : grown_bytes new ≤ 6 * length piece + 131072
  piece_asks =
      let few = one_failure r (calls_of old) (calls_of new) counted in
      let zero = ap (λ (g : Grown). g.failed_allocations) start in
      let failed = mul-le-mul_right {m = new.failed_allocations} {n = 1} (2 * (length new.taken + 65536)) (omega arith) in
      omega (arith, within, failed)

  pub piece_pays : {B D : Type 0} (s : Result B D) (asked asked_now : ℕ) → (IsErr s ↔ 0 < new.failed_allocations)
      → asked_now ≤ asked + grown_bytes new → OnOk s (asked_now ≤ asked + 6 * length piece)
  piece_pays (Ok x) asked asked_now which most = elim (cases_lt 0 new.failed_allocations) [
    | inl l ↦ absurd (both_ways false refl (which.1 l))
    | inr l ↦
        let none = mul-le-mul_right {m = new.failed_allocations} {n = 0} (2 * (length new.taken + 65536)) l in
        omega (arith, within, none, most)
  ]
  piece_pays (Err e) asked asked_now which most = tt
