-- A line of five buffered parts, then a write and a flush.
use Rattle.std.proofs.Common.{◌≡◌, ◌⊎◌, ◌++◌, ◌∙◌, ap, arith, inl, inr, sym, ℕ, List, Option, Result, Err}
use Rattle.std.specs.Prelude.{⊤}
use Rattle.std.specs.Io.KnownBytes.{Appends}
use Rattle.px_bytes.specs.Devices.{AppendsPrefix, Calls, Device, FailsOnce, one_failed, one_flush}
use Rattle.px_bytes.specs.Waiting.{Buffer, ◌⊕◌, Owes, Puts}
use Rattle.px_bytes.specs.lemmas.WaitingLaws.{puts_both, puts_first}
use Rattle.px_bytes.specs.lemmas.WriteLaws.{appends_kept, prefix_all}
use Rattle.px_runs.specs.Lines.{FlushesLast, Reports}
use Rattle.px_runs.specs.calls.Flushing.{Flushes}

-- a device over a call, of the counts of its calls and its bytes
abbrev pub device : Calls → Calls → Option (List ℕ) → Option (List ℕ) → Device
device calls calls_now old new = record { calls = calls; calls_now = calls_now; old = old; new = new }

-- the first of two parts was added, and a call failed after it
stops_after : (a b c : Option (List ℕ)) (h i : Buffer) (xs ys : List ℕ) → Owes a b i (h ⊕ xs) → AppendsPrefix b c (i.bytes ++ ys)
    → AppendsPrefix a c (h.bytes ++ (xs ++ ys))
stops_after a b c h i xs ys p q = puts_both {A = ⊤} {E = ⊤} (Err tt) a b c h i i xs ys p q

module _ (v w x y z : List ℕ) (a b c d e : Option (List ℕ)) (h i j k l : Buffer) where
  pub stops_first : AppendsPrefix a b (h.bytes ++ v) → AppendsPrefix a b (h.bytes ++ (v ++ (w ++ (x ++ (y ++ z)))))
  stops_first p = puts_first a b h v (w ++ (x ++ (y ++ z))) p

  module _ (one : Owes a b i (h ⊕ v)) where
    pub stops_second : AppendsPrefix b c (i.bytes ++ w) → AppendsPrefix a c (h.bytes ++ (v ++ (w ++ (x ++ (y ++ z)))))
    stops_second p = stops_after a b c h i v (w ++ (x ++ (y ++ z))) one (puts_first b c i w (x ++ (y ++ z)) p)

    module _ (two : Owes b c j (i ⊕ w)) where
      pub stops_third : AppendsPrefix c d (j.bytes ++ x) → AppendsPrefix a d (h.bytes ++ (v ++ (w ++ (x ++ (y ++ z)))))
      stops_third p = stops_after a b d h i v (w ++ (x ++ (y ++ z))) one
          (stops_after b c d i j w (x ++ (y ++ z)) two (puts_first c d j x (y ++ z) p))

      module _ (three : Owes c d k (j ⊕ x)) where
        pub stops_fourth : AppendsPrefix d e (k.bytes ++ y) → AppendsPrefix a e (h.bytes ++ (v ++ (w ++ (x ++ (y ++ z)))))
        stops_fourth p = stops_after a b e h i v (w ++ (x ++ (y ++ z))) one
            (stops_after b c e i j w (x ++ (y ++ z)) two (stops_after c d e j k x (y ++ z) three (puts_first d e k y z p)))

        pub puts_all : {A E : Type 0} (r : Result A E) (f : Option (List ℕ)) (m : Buffer) → Owes d e l (k ⊕ y) → Puts r e f l m z
            → Puts r a f h m (v ++ (w ++ (x ++ (y ++ z))))
        puts_all r f m four p = puts_both r a b f h i m v (w ++ (x ++ (y ++ z))) one
            (puts_both r b c f i j m w (x ++ (y ++ z)) two (puts_both r c d f j k m x (y ++ z) three (puts_both r d e f k l m y z four p)))

-- a line that was written, and then a flush
pub flushes_reports : (expected : ℕ) (line : List ℕ) (status : ℕ) (calls mid now : Calls) (old written new : Option (List ℕ)) → mid ≡ calls
    → Appends old written line
    → Flushes expected status (device mid now written new) → Reports expected line status (device calls now old new)
flushes_reports expected line status calls mid now old written new same h f = elim f [
  | inl f ↦ inl (f.0, f.1 ∙ ap one_flush same, appends_kept old written new line h f.2)
  | inr f ↦ inr (
    f.0,
    inr (f.1 ∙ ap (λ (k : Calls). one_failed (one_flush k)) same),
    prefix_all old new line (appends_kept old written new line h f.2),
  )
]

-- ---- no byte after the flush

-- a failed call, or none at all, is no flush that succeeded
pub failed_no_flush : (old new : Calls) → FailsOnce old new → new ≡ one_flush old → ⊥
failed_no_flush old new (inl f) e = let s = ap (λ (k : Calls). k.failed) (sym f ∙ e) in absurd (omega (arith, s))
failed_no_flush old new (inr f) e = let s = ap (λ (k : Calls). k.failed) (sym f ∙ e) in absurd (omega (arith, s))

pub idle_no_flush : (old new : Calls) → new ≡ old → new ≡ one_flush old → ⊥
idle_no_flush old new f e = let s = ap (λ (k : Calls). k.flushes) (sym f ∙ e) in absurd (omega (arith, s))

-- a line, or a fault before it, was reported by calls that came after `mid`
pub last_after : (old mid new : Calls) (unflushed : ℕ) → mid ≡ old → FlushesLast mid new unflushed → FlushesLast old new unflushed
last_after old mid new unflushed same h = λ e. h (e ∙ ap one_flush (sym same))

pub failed_last : (old new : Calls) (unflushed : ℕ) → FailsOnce old new → FlushesLast old new unflushed
failed_last old new unflushed f = λ e. absurd (failed_no_flush old new f e)

pub idle_last : (old new : Calls) (unflushed : ℕ) → new ≡ old → FlushesLast old new unflushed
idle_last old new unflushed f = λ e. absurd (idle_no_flush old new f e)

-- a line that was told is no idle writer
pub reported_not_idle : {A B C D : Type 0} (old new : Calls) → ((A × (new ≡ one_flush old) × B) ⊎ (C × FailsOnce old new × D)) → new ≡ old → ⊥
reported_not_idle old new (inl t) e = idle_no_flush old new e t.1
reported_not_idle old new (inr t) e = elim t.1 [
  | inl f ↦ let s = ap (λ (k : Calls). k.failed) (sym f ∙ e) in absurd (omega (arith, s))
  | inr f ↦ let s = ap (λ (k : Calls). k.failed) (sym f ∙ e) in absurd (omega (arith, s))
]
