-- Parts added to an output buffer, one after another.
use Rattle.std.proofs.Common.{◌≡◌, ℕ, ◌+◌, ◌<◌, ◌≤◌, ◌++◌, List, [], ◌∷◌, length, take, drop, get_or}
use Rattle.std.proofs.Common.{slice_get, Option, Some, Result, Ok, Err}
use Rattle.std.proofs.Common.{refl, sym, ap, ◌∙◌, subst, arith, append_assoc, append-nil, length-append}
use Rattle.std.proofs.KnownBytes.{Appends-nil}
use Rattle.std.specs.List.{flat_map}
use Rattle.std.specs.Io.KnownBytes.{Appends}
use Rattle.std.proofs.lemmas.List.{take_more, flat_map_more, drop_more, take-append-drop}
use Rattle.std.proofs.lemmas.List.Concat.{flat_map-append}
use Rattle.std.proofs.lemmas.Option.{slice_get_within, get_or_from_slice_get}
use Rattle.px_bytes.specs.Devices.{AppendsPrefix, Writes, WritesOnce}
use Rattle.px_bytes.specs.lemmas.WriteLaws.{appends_both, prefix_first, prefix_second}
use Rattle.px_bytes.specs.Waiting.{Buffer, ◌⊕◌, Owes, Puts, FitsBuffer, PutsBuffered, Waits}

-- the buffer with other bytes
abbrev with : Buffer → List ℕ → Buffer
with h l = record h { bytes = l }

-- bytes and then others are the bytes of both
pub buffer_append : (h : Buffer) (xs ys : List ℕ) → h ⊕ xs ⊕ ys ≡ h ⊕ (xs ++ ys)
buffer_append h xs ys = ap (with h) (append_assoc h.bytes xs ys)

-- no bytes
pub buffer_nil : (h : Buffer) → h ≡ h ⊕ []
buffer_nil h = ap (with h) (sym (append-nil h.bytes))

-- one more part
pub owes_more : (a b c : Option (List ℕ)) (h k out : Buffer) (bytes : List ℕ) → Owes a b h out → Owes b c k (h ⊕ bytes)
    → Owes a c k (out ⊕ bytes)
owes_more a b c h k out bytes p q = (
  p.0 ++ q.0,
  appends_both a b c p.0 q.0 p.1 q.1,
  ap (with k) (append_assoc p.0 q.0 k.bytes) ∙ ap (λ (z : Buffer). with z (p.0 ++ z.bytes)) q.2
      ∙ ap (with h) (sym (append_assoc p.0 h.bytes bytes)) ∙ ap (λ (z : Buffer). z ⊕ bytes) p.2,
)

pub owes_stop : (a b c : Option (List ℕ)) (h out : Buffer) (bytes : List ℕ) → Owes a b h out → AppendsPrefix b c (h.bytes ++ bytes)
    → AppendsPrefix a c (out.bytes ++ bytes)
owes_stop a b c h out bytes p q =
    subst (AppendsPrefix a c) (sym (append_assoc p.0 h.bytes bytes)
    ∙ ap (λ (z : Buffer). z.bytes ++ bytes) p.2) (prefix_second a b c p.0 (h.bytes ++ bytes) p.1 q)

-- two parts
pub puts_both : {A E : Type 0} (r : Result A E) (a b c : Option (List ℕ)) (h k m : Buffer) (xs ys : List ℕ) → Owes a b k (h ⊕ xs)
    → Puts r b c k m ys → Puts r a c h m (xs ++ ys)
puts_both (Ok x) a b c h k m xs ys p q = subst (Owes a c m) (buffer_append h xs ys) (owes_more a b c k m (h ⊕ xs) ys p q)
puts_both (Err e) a b c h k m xs ys p q =
    subst (AppendsPrefix a c) (append_assoc h.bytes xs ys) (owes_stop a b c k (h ⊕ xs) ys p q)

-- the first of two parts failed
pub puts_first : (a b : Option (List ℕ)) (h : Buffer) (xs ys : List ℕ) → AppendsPrefix a b (h.bytes ++ xs)
    → AppendsPrefix a b (h.bytes ++ (xs ++ ys))
puts_first a b h xs ys p = subst (AppendsPrefix a b) (append_assoc h.bytes xs ys) (prefix_first a b (h.bytes ++ xs) ys p)

-- bytes written directly, after the buffered ones
pub puts_written : {A E : Type 0} (r : Result A E) (a b c : Option (List ℕ)) (h k : Buffer) (bytes : List ℕ)
    → k ≡ record h { bytes = [] } → Appends a b h.bytes → Writes r b c bytes → Puts r a c h k bytes
puts_written (Ok x) a b c h k bytes e p q = (
  h.bytes ++ bytes,
  appends_both a b c h.bytes bytes p q,
  ap (λ (z : Buffer). with z (h.bytes ++ bytes ++ z.bytes)) e ∙ ap (with h) (append-nil (h.bytes ++ bytes)),
)
puts_written (Err x) a b c h k bytes e p q = prefix_second a b c h.bytes bytes p q

-- all buffered bytes were written, and then a part was added
pub sent_puts : {A E : Type 0} (r : Result A E) (a b c : Option (List ℕ)) (h k m : Buffer) (xs : List ℕ) → k ≡ record h { bytes = [] }
    → Appends a b h.bytes → Puts r b c k m xs → Puts r a c h m xs
sent_puts r a b c h k m xs e w p =
    let sent : Owes a b k (h ⊕ []) = (h.bytes, w, ap (λ (z : Buffer). with z (h.bytes ++ z.bytes)) e) in
    puts_both r a b c h k m [] xs sent p

-- what doesn't fit may be buffered or written
pub waits_never : {A E W : Type 0} (r : Result A E) (a b : W) (h k : Buffer) (bytes : List ℕ) → ¬ FitsBuffer h bytes → Waits r a b h k bytes
waits_never (Ok x) a b h k bytes never = λ f. absurd (never f)
waits_never (Err e) a b h k bytes never = never

-- ---- from the first part to the last

-- the buffer was empty at first
pub from_none : (P : List ℕ → Type 0) (h out : List ℕ) → h ≡ [] → P (h ++ out) → P out
from_none P h out e p = subst (λ (l : List ℕ). P (l ++ out)) e p

-- a prefix of the buffered bytes was written last
pub owed_prefix : (a b c : Option (List ℕ)) (h out : Buffer) → Owes a b h out → AppendsPrefix b c h.bytes → AppendsPrefix a c out.bytes
owed_prefix a b c h out p q = subst (AppendsPrefix a c) (ap (λ (z : Buffer). z.bytes) p.2) (prefix_second a b c p.0 h.bytes p.1 q)

-- all buffered bytes were written last
pub owed_all : (a b c : Option (List ℕ)) (h out : Buffer) → Owes a b h out → Appends b c h.bytes → Appends a c out.bytes
owed_all a b c h out p q = subst (Appends a c) (ap (λ (z : Buffer). z.bytes) p.2) (appends_both a b c p.0 h.bytes p.1 q)

-- the buffer was empty, bytes were added, and the buffered bytes were written last
pub owes_written : {A E : Type 0} (r : Result A E) (a b c : Option (List ℕ)) (none buffer : Buffer) (out : List ℕ)
    → none.bytes ≡ [] → Owes a b buffer (none ⊕ out) → Writes r b c buffer.bytes → Writes r a c out
owes_written (Ok x) a b c none buffer out e p q = from_none (Appends a c) none.bytes out e (owed_all a b c buffer (none ⊕ out) p q)
owes_written (Err x) a b c none buffer out e p q = from_none (AppendsPrefix a c) none.bytes out e (owed_prefix a b c buffer (none ⊕ out) p
    q)

-- ---- a short form, in one write

-- it fits into an empty buffer
pub fits_new : (h : Buffer) (form : List ℕ) → h.bytes ≡ [] → h.capacity ≡ 8192 → length form ≤ 8192 → FitsBuffer h form
fits_new h form none capacity short = omega (arith, ap (λ (xs : List ℕ). length xs) none, capacity, short)

-- the buffer was empty and the form was put into it, which called nothing; then the buffered bytes were written
pub sent_once : {E W : Type 0} (wrote : W → List ℕ → Result ℕ E → W → Type 0) (h k : Buffer) (form : List ℕ) (old put sent : W)
    → h.bytes ≡ [] → k ≡ h ⊕ form → put ≡ old → 0 < length form → (0 < length k.bytes → WritesOnce wrote put sent k.bytes)
    → WritesOnce wrote old sent form
sent_once {E} {W} wrote h k form old put sent none buffer same some once =
    let all : k.bytes ≡ form = ap (λ (z : Buffer). z.bytes) buffer ∙ ap (λ (xs : List ℕ). xs ++ form) none in
    let full : 0 < length k.bytes = subst (λ (xs : List ℕ). 0 < length xs) (sym all) some in
    subst (λ (w : W). WritesOnce wrote w sent form) same (subst (λ (xs : List ℕ). WritesOnce wrote put sent xs) all (once full))

-- ---- the parts of a list's elements

module _ {X : Type 0} (f : X → List ℕ) (xs : List X) (i : ℕ) (x : X) (read : slice_get xs i ≡ Some x) where
  within : i < length xs
  within = slice_get_within xs i x read

  element : get_or xs i x ≡ x
  element = get_or_from_slice_get xs i x x read

  pub parts_more : flat_map f (take (i + 1) xs) ≡ flat_map f (take i xs) ++ f x
  parts_more =
      ap (flat_map f) (take_more xs i x within ∙ ap (λ (y : X). take i xs ++ y ∷ []) element)
      ∙ sym (flat_map_more f [] (take i xs) x)

  parts_all : flat_map f xs ≡ flat_map f (take i xs) ++ (f x ++ flat_map f (drop (i + 1) xs))
  parts_all =
      ap (flat_map f) (sym (take-append-drop i xs)) ∙ flat_map-append f (take i xs) (drop i xs)
      ∙ ap (λ (ys : List X). flat_map f (take i xs) ++ flat_map f ys) (drop_more xs i x within)
      ∙ ap (λ (y : X). flat_map f (take i xs) ++ (f y ++ flat_map f (drop (i + 1) xs))) element

  -- one more part, if only `Owes` is known
  pub owed_more : (a b c : Option (List ℕ)) (h k m : Buffer) → Owes a b k (h ⊕ flat_map f (take i xs)) → Owes b c m (k ⊕ f x)
      → Owes a c m (h ⊕ flat_map f (take (i + 1) xs))
  owed_more a b c h k m p q =
      subst (Owes a c m) (buffer_append h (flat_map f (take i xs)) (f x) ∙ ap (λ (l : List ℕ). h ⊕ l) (sym parts_more))
      (owes_more a b c k m (h ⊕ flat_map f (take i xs)) (f x) p q)

  pub owed_stop : (a b c : Option (List ℕ)) (h k : Buffer) → Owes a b k (h ⊕ flat_map f (take i xs)) → AppendsPrefix b c (k.bytes ++ f x)
      → AppendsPrefix a c (h.bytes ++ flat_map f xs)
  owed_stop a b c h k p q =
      let stop = owes_stop a b c k (h ⊕ flat_map f (take i xs)) (f x) p q in
      let rest = flat_map f (drop (i + 1) xs) in
      let out : h.bytes ++ flat_map f (take i xs) ++ f x ++ rest ≡ h.bytes ++ flat_map f xs =
      append_assoc (h.bytes ++ flat_map f (take i xs)) (f x) rest ∙ append_assoc h.bytes (flat_map f (take i xs)) (f x ++ rest)
      ∙ ap (λ (l : List ℕ). h.bytes ++ l) (sym parts_all) in
      subst (AppendsPrefix a c) out (prefix_first a c (h.bytes ++ flat_map f (take i xs) ++ f x) rest stop)

-- ---- parts that fit into the buffer

-- a first part fits if both do
fits_first : (h : Buffer) (xs ys : List ℕ) → FitsBuffer h (xs ++ ys) → FitsBuffer h xs
fits_first h xs ys f = omega (arith, length-append xs ys, f)

fits_second : (h k : Buffer) (xs ys : List ℕ) → k ≡ h ⊕ xs → FitsBuffer h (xs ++ ys) → FitsBuffer k ys
fits_second h k xs ys e f =
    omega (
      arith,
      ap (λ (z : Buffer). length z.bytes) e,
      ap (λ (z : Buffer). z.capacity) e,
      length-append h.bytes xs,
      length-append xs ys,
      f,
    )

module _ {W : Type 0} (taken : W → Option (List ℕ)) where
  -- the bytes were added
  abbrev pub HasPut : W → W → Buffer → Buffer → List ℕ → Type 0
  HasPut a b h k xs = Owes (taken a) (taken b) k (h ⊕ xs) × (FitsBuffer h xs → (k ≡ h ⊕ xs) × (b ≡ a))

  -- a call failed while they were added
  abbrev pub FailsPut : W → W → Buffer → List ℕ → Type 0
  FailsPut a b h xs = AppendsPrefix (taken a) (taken b) (h.bytes ++ xs) × ¬ FitsBuffer h xs

  -- no bytes
  pub put_none : (a : W) (h : Buffer) → HasPut a a h h []
  put_none a h = (([], Appends-nil (taken a), buffer_nil h), λ f. (buffer_nil h, refl))

  -- two parts
  pub put_both : (a b c : W) (h k m : Buffer) (xs ys : List ℕ) → HasPut a b h k xs → HasPut b c k m ys → HasPut a c h m (xs ++ ys)
  put_both a b c h k m xs ys p q =
      let waits : FitsBuffer h (xs ++ ys) → (m ≡ h ⊕ (xs ++ ys)) × (c ≡ a) = λ f.
      let first = p.1 (fits_first h xs ys f) in
      let second = q.1 (fits_second h k xs ys first.0 f) in
      (second.0 ∙ ap (λ (z : Buffer). z ⊕ ys) first.0 ∙ buffer_append h xs ys, second.1 ∙ first.1) in
      (subst (Owes (taken a) (taken c) m) (buffer_append h xs ys) (owes_more (taken a) (taken b) (taken c) k m (h ⊕ xs) ys p.0 q.0), waits)

  -- the second of two parts failed
  pub fails_second : (a b c : W) (h k : Buffer) (xs ys : List ℕ) → HasPut a b h k xs → FailsPut b c k ys → FailsPut a c h (xs ++ ys)
  fails_second a b c h k xs ys p q = (
    subst (AppendsPrefix (taken a) (taken c)) (append_assoc h.bytes xs ys)
        (owes_stop (taken a) (taken b) (taken c) k (h ⊕ xs) ys p.0 q.0),
    λ f. q.1 (fits_second h k xs ys (p.1 (fits_first h xs ys f)).0 f),
  )

  -- the first of two parts failed
  pub fails_first : (a b : W) (h : Buffer) (xs ys : List ℕ) → FailsPut a b h xs → FailsPut a b h (xs ++ ys)
  fails_first a b h xs ys p = (puts_first (taken a) (taken b) h xs ys p.0, λ f. p.1 (fits_first h xs ys f))

  -- the result of the second part is that of both
  pub puts_to_both : {A E : Type 0} (r : Result A E) (a b c : W) (h k m : Buffer) (xs ys : List ℕ) → HasPut a b h k xs
      → PutsBuffered taken r b c k m ys → PutsBuffered taken r a c h m (xs ++ ys)
  puts_to_both (Ok x) a b c h k m xs ys p q = put_both a b c h k m xs ys p q
  puts_to_both (Err e) a b c h k m xs ys p q = fails_second a b c h k xs ys p q

  -- the parts of a list's elements: one more, and one whose call failed
  module _ {X : Type 0} (f : X → List ℕ) (xs : List X) (i : ℕ) (x : X) (read : slice_get xs i ≡ Some x) where
    pub loop_more : (a b c : W) (h k m : Buffer) → HasPut a b h k (flat_map f (take i xs)) → HasPut b c k m (f x)
        → HasPut a c h m (flat_map f (take (i + 1) xs))
    loop_more a b c h k m p q =
        subst (HasPut a c h m) (sym (parts_more f xs i x read)) (put_both a b c h k m (flat_map f (take i xs)) (f x) p q)

    pub loop_stop : (a b c : W) (h k : Buffer) → HasPut a b h k (flat_map f (take i xs)) → FailsPut b c k (f x)
        → FailsPut a c h (flat_map f xs)
    loop_stop a b c h k p q =
        let rest = flat_map f (drop (i + 1) xs) in
        subst (FailsPut a c h) (sym (parts_all f xs i x read))
        (fails_second a b c h k (flat_map f (take i xs)) (f x ++ rest) p (fails_first b c k (f x) rest q))
