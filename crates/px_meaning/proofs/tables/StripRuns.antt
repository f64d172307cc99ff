-- Strips that follow one another directly, and the lengths of strips.
use Rattle.std.proofs.Common.{◌≡◌, ℕ, zero, suc, ◌+◌, ◌-◌, ◌<◌, ◌≤◌, ◌%◌, Some, option_map, List, [], ◌∷◌, ◌++◌, length, map, take, drop}
use Rattle.std.proofs.Common.{sym, ap, ap₂, ◌∙◌, arith, slice_get, get_or, length-append, append_assoc, subst}
use Rattle.std.specs.List.{flat_map}
use Rattle.std.proofs.lemmas.List.{length-map, drop-drop, take-append-le}
use Rattle.std.proofs.lemmas.Option.{slice_get-map, slice_get-get_or}
use Rattle.std.proofs.Math.Nat.{add-mod-mod}
use Rattle.std.proofs.Math.Seq.{take-add}
use Rattle.px_bytes.specs.Parts.{part}
use Rattle.px_bytes.specs.Range.{range}
use Rattle.px_bytes.specs.lemmas.PartLaws.{length_part}
use Rattle.px_bytes.specs.lemmas.WaitingLaws.{parts_more}
use Rattle.px_meaning.specs.declared.strip_lists.StripLists.{StripLists}
use Rattle.px_meaning.specs.Thumbnail.{whole_number}
use Rattle.px_meaning.specs.calls.Strips.{ranges_in, named_strips, AreNamed, AreJoined}
use Rattle.px_meaning.proofs.tables.StripBytes.{ranges_get, strip_get, inside_at}

abbrev size : List ℕ → ℕ
size x = length x

both_even : (m n : ℕ) → m % 2 ≡ 0 → n % 2 ≡ 0 → (m + n) % 2 ≡ 0
both_even m n p q =
    let e : m + 0 ≡ m = omega arith in
    sym (add-mod-mod m n 2) ∙ ap (λ (k : ℕ). (m + k) % 2) q ∙ ap (λ (k : ℕ). k % 2) e ∙ p

-- two parts, one directly after the other
part_both : (b : List ℕ) (x m n : ℕ) → part b x m ++ part b (x + m) n ≡ part b x (m + n)
part_both b x m n =
    ap (λ (ys : List ℕ). part b x m ++ take n ys) (sym (drop-drop m x b)) ∙ sym (take-add m n (drop x b))

pub one_joined : (xs : List (List ℕ)) (i : ℕ) (s : List ℕ) → slice_get xs i ≡ Some s → AreJoined xs i (i + 1) s
one_joined xs i s e = λ f keeps. parts_more f xs i s e

-- one more strip of an even length
joined_more : (xs : List (List ℕ)) (i j : ℕ) (bytes s : List ℕ) → length bytes % 2 ≡ 0 → length s % 2 ≡ 0 → slice_get xs j ≡ Some s
    → AreJoined xs i j bytes → AreJoined xs i (j + 1) (bytes ++ s)
joined_more xs i j bytes s p q e h = λ f keeps.
    let even : length (bytes ++ s) % 2 ≡ 0 =
    ap (λ (k : ℕ). k % 2) (length-append bytes s) ∙ both_even (length bytes) (length s) p q in
    let before = flat_map f (take i xs) in
    parts_more f xs j s e ∙ ap (λ (ys : List ℕ). ys ++ f s) (h f keeps) ∙ append_assoc before (f bytes) (f s)
    ∙ ap₂ (λ (u v : List ℕ). before ++ (u ++ v)) (keeps bytes p) (keeps s q)
    ∙ ap (λ (u : List ℕ). before ++ u) (sym (keeps (bytes ++ s) even))

-- the same strips, before others
pub joined_front : (xs ys : List (List ℕ)) (i n : ℕ) (bytes : List ℕ) → i ≤ n → n ≤ length xs → AreJoined xs i n bytes
    → AreJoined (xs ++ ys) i n bytes
joined_front xs ys i n bytes p q h = λ f keeps.
    ap (flat_map f) (take-append-le n xs ys q) ∙ h f keeps
    ∙ ap (λ (zs : List (List ℕ)). flat_map f zs ++ f bytes) (sym (take-append-le i xs ys (omega arith)))

pub len_front : (xs ys : List (List ℕ)) (i n : ℕ) → slice_get (map size xs) i ≡ Some n → slice_get (map size (xs ++ ys)) i ≡ Some n
len_front [] ys i n h = cc
len_front (x ∷ xs) ys zero n h = h
len_front (x ∷ xs) ys (suc i) n h = len_front xs ys i n h

pub len_read : (xs : List (List ℕ)) (i : ℕ) (x : List ℕ) → slice_get xs i ≡ Some x → slice_get (map size xs) i ≡ Some (length x)
len_read xs i x e = slice_get-map size xs i ∙ ap (option_map size) e

-- the strip at i of the lists
module _ (l : StripLists) (a : AreNamed l) (i x n : ℕ) (h : slice_get (map whole_number l.starts.elements) i ≡ Some x)
    (k : slice_get (map whole_number l.sizes.elements) i ≡ Some n) where
  here : slice_get (ranges_in l) i ≡ Some (range x n)
  here = ranges_get (map whole_number l.starts.elements) (map whole_number l.sizes.elements) i x n h k

  pub strip_here : slice_get (named_strips (Some l)) i ≡ Some (part l.block.now x n)
  strip_here = strip_get l.block.now (ranges_in l) i (range x n) here

  pub ends_inside : x + n ≤ length l.block.now
  ends_inside = inside_at l.block.now (ranges_in l) i (range x n) a.inside here

  pub first_joined : AreJoined (named_strips (Some l)) i (i + 1) (part l.block.now x (x + n - x))
  first_joined =
      let e : n ≡ x + n - x = omega arith in
      subst (λ (m : ℕ). AreJoined (named_strips (Some l)) i (i + 1) (part l.block.now x m)) e
      (one_joined (named_strips (Some l)) i (part l.block.now x n) strip_here)

  module _ (first start end : ℕ) (e : x ≡ end) (rising : start ≤ end) (inside : end ≤ length l.block.now)
      (p : (end - start) % 2 ≡ 0) (q : n % 2 ≡ 0) where
    longer : (end - start) + n ≡ x + n - start
    longer = omega arith

    pub even_more : (x + n - start) % 2 ≡ 0
    even_more = ap (λ (m : ℕ). m % 2) (sym longer) ∙ both_even (end - start) n p q

    pub run_more : AreJoined (named_strips (Some l)) first i (part l.block.now start (end - start))
        → AreJoined (named_strips (Some l)) first (i + 1) (part l.block.now start (x + n - start))
    run_more joined =
        let b = l.block.now in
        let place : x ≡ start + (end - start) = omega arith in
        let bytes : part b start (end - start) ++ part b x n ≡ part b start (x + n - start) =
        ap (λ (m : ℕ). part b start (end - start) ++ part b m n) place ∙ part_both b start (end - start) n
        ∙ ap (λ (m : ℕ). part b start m) longer in
        let old : length (part b start (end - start)) % 2 ≡ 0 =
        ap (λ (m : ℕ). m % 2) (length_part b start (end - start) (omega arith)) ∙ p in
        let new : length (part b x n) % 2 ≡ 0 = ap (λ (m : ℕ). m % 2) (length_part b x n ends_inside) ∙ q in
        subst (AreJoined (named_strips (Some l)) first (i + 1)) bytes
        (joined_more (named_strips (Some l)) first i (part b start (end - start)) (part b x n) old new strip_here joined)

-- its length alone
pub named_strip_size : (l : StripLists) (a : AreNamed l) (i n : ℕ) → i < length l.starts.elements
    → slice_get (map whole_number l.sizes.elements) i ≡ Some n → slice_get (map size (named_strips (Some l))) i ≡ Some n
named_strip_size l a i n below k =
    let xs = map whole_number l.starts.elements in
    let x = get_or xs i 0 in
    let count = length-map l.starts.elements whole_number in
    let h = slice_get-get_or xs i 0 (omega arith) in
    len_read (named_strips (Some l)) i (part l.block.now x n) (strip_here l a i x n h k)
    ∙ ap (λ (m : ℕ). Some m) (length_part l.block.now x n (ends_inside l a i x n h k))
