-- The results of writing the normal form.
use Rattle.std.proofs.Common.{◌≡◌, ℕ, ◌<◌, ◌≤◌, arith, inl, inr, List, [], ◌++◌, length, Option, Result, Ok, Err, refl, sym, ◌∙◌, ap, subst}
use Rattle.std.specs.Io.KnownBytes.{Appends, Keeps}
use Rattle.px_bytes.specs.declared.WriteRefusal.{WriteRefusal}
use Rattle.px_bytes.specs.declared.WriteRefusal.TheVariants.{NormalTooLong, OutOfMemory, WriteFailed}
use Rattle.px_bytes.specs.Devices.{AppendsPrefix, Calls, IsShort, WritesOnce, one_failed, one_flush}
use Rattle.px_bytes.specs.Parts.{limit}
use Rattle.px_bytes.specs.Waiting.{Buffer, ◌⊕◌, FitsBuffer, Owes}
use Rattle.px_bytes.specs.lemmas.WaitingLaws.{fits_new, from_none, owed_prefix, owed_all, sent_once}
use Rattle.px_bytes.specs.lemmas.WriteLaws.{appends_kept, prefix_all}
use Rattle.px_meaning.specs.Tree.{Meaning}
use Rattle.px_layout.specs.Normal.{normal_exif}
use Rattle.px_layout.specs.calls.Forms.{FormResult}
use Rattle.px_layout.specs.Writing.{WritesExif}

-- there is no form to write
pub no_form : (m : Meaning) (a : Option (List ℕ)) (calls : Calls) (e : WriteRefusal) → FormResult (Err e) m
    → WritesExif (Err e) a a calls calls m
no_form m a calls NormalTooLong h = (h, refl, refl)
no_form m a calls OutOfMemory h = absurd h
no_form m a calls WriteFailed h = absurd h

-- ---- a short form is one write

pub short_has_form : (m : Meaning) (e : WriteRefusal) → FormResult (Err e) m → length (normal_exif m) ≤ 8192 → ⊥
short_has_form m NormalTooLong h l = absurd (omega (arith, h, l))
short_has_form m OutOfMemory h l = absurd h
short_has_form m WriteFailed h l = absurd h

-- the form of s is that of m, and there is an empty buffer of the usual length
module _ (m s : Meaning) (h : Buffer) (same : s ≡ m) (none : h.bytes ≡ []) (space : h.capacity ≡ 8192)
    (short : IsShort (length (normal_exif m))) where
  here : IsShort (length (normal_exif s))
  here = subst (λ (x : Meaning). IsShort (length (normal_exif x))) (sym same) short

  pub short_fits : FitsBuffer h (normal_exif s)
  short_fits = fits_new h (normal_exif s) none space here.1

  pub once_sent : {E W : Type 0} (wrote : W → List ℕ → Result ℕ E → W → Type 0) (k : Buffer) (old put sent : W)
      → (FitsBuffer h (normal_exif s) → (k ≡ h ⊕ normal_exif s) × (put ≡ old)) → (0 < length k.bytes → WritesOnce wrote put sent k.bytes)
      → WritesOnce wrote old sent (normal_exif m)
  once_sent {E} {W} wrote k old put sent waits first =
      let p = waits short_fits in
      subst (λ (x : Meaning). WritesOnce wrote old sent (normal_exif x)) same
      (sent_once wrote h k (normal_exif s) old put sent none p.0 p.1 here.0 first)

-- ---- any form

-- the form of s is that of m, is not too long, and is put into an empty output buffer
module _ (m s : Meaning) (a : Option (List ℕ)) (calls : Calls) (h : Buffer) (same : s ≡ m) (l : length (normal_exif m) ≤ limit)
    (none : h.bytes ≡ []) where
  of_form : (P : List ℕ → Type 0) → P (h.bytes ++ normal_exif s) → P (normal_exif m)
  of_form P p = subst (λ (x : Meaning). P (normal_exif x)) same (from_none P h.bytes (normal_exif s) none p)

  -- a part could not be put
  pub not_put : (b : Option (List ℕ)) (n : Calls) → AppendsPrefix a b (h.bytes ++ normal_exif s) → n ≡ one_failed calls
      → WritesExif (Err WriteFailed) a b calls n m
  not_put b n p q = (l, of_form (AppendsPrefix a b) p, inl q)

  -- what waited could not be sent
  pub not_sent : (b c : Option (List ℕ)) (k : Buffer) (n : Calls) → Owes a b k (h ⊕ normal_exif s) → AppendsPrefix b c k.bytes
      → n ≡ one_failed calls
      → WritesExif (Err WriteFailed) a c calls n m
  not_sent b c k n p t q = (l, of_form (AppendsPrefix a c) (owed_prefix a b c k (h ⊕ normal_exif s) p t), inl q)

  all : (b c d : Option (List ℕ)) (k : Buffer) → Owes a b k (h ⊕ normal_exif s) → Appends b c k.bytes → Keeps c d
      → Appends a d (normal_exif m)
  all b c d k p t f = appends_kept a c d (normal_exif m) (of_form (Appends a c) (owed_all a b c k (h ⊕ normal_exif s) p t)) f

  -- the flush failed
  pub not_flushed : (b c d : Option (List ℕ)) (k : Buffer) (n : Calls) → Owes a b k (h ⊕ normal_exif s) → Appends b c k.bytes → Keeps c d
      → n ≡ one_failed (one_flush calls)
      → WritesExif (Err WriteFailed) a d calls n m
  not_flushed b c d k n p t f q = (l, prefix_all a d (normal_exif m) (all b c d k p t f), inr q)

  pub normal_written : (b c d : Option (List ℕ)) (k : Buffer) (n : Calls) (x : ℕ) → x ≡ length (normal_exif s)
      → Owes a b k (h ⊕ normal_exif s)
      → Appends b c k.bytes
      → Keeps c d → n ≡ one_flush calls → WritesExif (Ok x) a d calls n m
  normal_written b c d k n x is p t f q =
      let long : x ≡ length (normal_exif m) = is ∙ ap (λ (y : Meaning). length (normal_exif y)) same in
      (all b c d k p t f, long, subst (λ (y : ℕ). y ≤ limit) (sym long) l, q)
