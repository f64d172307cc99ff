-- Entries that are put over a list of entries.
use Rattle.std.proofs.Common.{is_some, ◌≡◌, ℕ, zero, suc, ◌+◌, ◌-◌, ◌^◌, ◌<◌, ◌≤◌, nat_lt, inl, inr, true, false, refl, sym, ◌∙◌, ap, subst}
use Rattle.std.proofs.Common.{arith, Option, Some, None, option_map, option_and_then, List, [], ◌∷◌, map, length, slice_get, lt-ltb}
use Rattle.std.proofs.Common.{ltb-true, le-ltb, ltb-false}
use Rattle.std.specs.Prelude.{IfSome, if◌then◌else◌}
use Rattle.std.specs.List.{AllByRecursion}
use Rattle.std.proofs.lemmas.Bool.{cond-true, cond-false, cases_Bool, cond_both}
use Rattle.std.proofs.lemmas.List.{length-map}
use Rattle.std.proofs.lemmas.Option.{slice_get-map}
use Rattle.px_bytes.specs.Parts.{limit}
use Rattle.px_field.specs.Values.{Value}
use Rattle.px_meaning.specs.declared.Dir.{Dir}
use Rattle.px_meaning.specs.declared.Dir.TheVariants.{Main, Exif, Interop, Gps, Thumb}
use Rattle.px_meaning.specs.Entry.{Rising}
use Rattle.px_meaning.specs.Tree.{Fields, ExifPart, Thumbnail, Meaning}
use Rattle.px_meaning.specs.Writable.{Item, Field, StripSizes, items, put, main_items, exif_items, thumb_items, field_items}
use Rattle.px_meaning.specs.Writable.{AreWritableFields, IsWritableExif, IsWritableThumb, IsBytes}
use Rattle.px_layout.specs.declared.items.Item as program
use Rattle.px_layout.specs.calls.Items.{item_of, CountsFit, rank}
use Rattle.px_layout.specs.calls.Layers.{with_extra, IsAtRank, IsEntryAt, FindsEntryAt, NoneBefore}
use Rattle.px_layout.specs.declared.entries.Extra.{Extra}
use Rattle.px_layout.specs.declared.entries.Step.{Step}
use Rattle.px_layout.specs.declared.entries.Step.TheVariants.{Here, Under}
use Rattle.px_layout.specs.lemmas.EntryLaws.{good_fields, few_items}

-- ---- a pair put at its position

module _ {X : Type 0} where
  pub rank_le : (t : ℕ) (xs : List (ℕ × X)) → rank t xs ≤ length xs
  rank_le t [] = omega arith
  rank_le t (y ∷ ys) =
      cond_both (nat_lt t y.0) 0 (suc (rank t ys)) (λ r. r ≤ suc (length ys)) (λ _. omega arith) (λ _. let h = rank_le t ys in omega arith)

  pub length_put : (t : ℕ) (x : X) (xs : List (ℕ × X)) → length (put t x xs) ≡ suc (length xs)
  length_put t x [] = refl
  length_put t x (y ∷ ys) =
      cond_both (nat_lt t y.0) ((t, x) ∷ y ∷ ys) (y ∷ put t x ys) (λ zs. length zs ≡ suc (suc (length ys))) (λ _. refl)
      (λ _. ap suc (length_put t x ys))

  put_now : (t : ℕ) (x : X) (y : ℕ × X) (ys : List (ℕ × X)) → nat_lt t y.0 ≡ true → put t x (y ∷ ys) ≡ (t, x) ∷ y ∷ ys
  put_now t x y ys q = cond-true (nat_lt t y.0) ((t, x) ∷ y ∷ ys) (y ∷ put t x ys) q

  put_later : (t : ℕ) (x : X) (y : ℕ × X) (ys : List (ℕ × X)) → nat_lt t y.0 ≡ false → put t x (y ∷ ys) ≡ y ∷ put t x ys
  put_later t x y ys q = cond-false (nat_lt t y.0) ((t, x) ∷ y ∷ ys) (y ∷ put t x ys) q

  rank_now : (t : ℕ) (y : ℕ × X) (ys : List (ℕ × X)) → nat_lt t y.0 ≡ true → rank t (y ∷ ys) ≡ 0
  rank_now t y ys q = cond-true (nat_lt t y.0) 0 (suc (rank t ys)) q

  rank_later : (t : ℕ) (y : ℕ × X) (ys : List (ℕ × X)) → nat_lt t y.0 ≡ false → rank t (y ∷ ys) ≡ suc (rank t ys)
  rank_later t y ys q = cond-false (nat_lt t y.0) 0 (suc (rank t ys)) q

  pub put_before : (t : ℕ) (x : X) (xs : List (ℕ × X)) (i : ℕ) → i < rank t xs → slice_get (put t x xs) i ≡ slice_get xs i
  put_before t x [] i l = absurd (omega arith)
  put_before t x (y ∷ ys) zero l = elim (cases_Bool (nat_lt t y.0)) [
    | inl q ↦ absurd (let r = rank_now t y ys q in omega arith)
    | inr q ↦ ap (λ zs. slice_get zs 0) (put_later t x y ys q)
  ]
  put_before t x (y ∷ ys) (suc i) l = elim (cases_Bool (nat_lt t y.0)) [
    | inl q ↦ absurd (let r = rank_now t y ys q in omega arith)
    | inr q ↦ ap (λ zs. slice_get zs (suc i)) (put_later t x y ys q) ∙ put_before t x ys i (let r = rank_later t y ys q in omega arith)
  ]

  pub put_here : (t : ℕ) (x : X) (xs : List (ℕ × X)) (i : ℕ) → i ≡ rank t xs → slice_get (put t x xs) i ≡ Some (t, x)
  put_here t x [] i e = ap (slice_get (put t x [])) e
  put_here t x (y ∷ ys) zero e = elim (cases_Bool (nat_lt t y.0)) [
    | inl q ↦ ap (λ zs. slice_get zs 0) (put_now t x y ys q)
    | inr q ↦ absurd (let r = rank_later t y ys q in omega arith)
  ]
  put_here t x (y ∷ ys) (suc i) e = elim (cases_Bool (nat_lt t y.0)) [
    | inl q ↦ absurd (let r = rank_now t y ys q in omega arith)
    | inr q ↦ ap (λ zs. slice_get zs (suc i)) (put_later t x y ys q) ∙ put_here t x ys i (let r = rank_later t y ys q in omega arith)
  ]

  pub put_after : (t : ℕ) (x : X) (xs : List (ℕ × X)) (j : ℕ) → rank t xs ≤ j → slice_get (put t x xs) (suc j) ≡ slice_get xs j
  put_after t x [] j l = refl
  put_after t x (y ∷ ys) zero l = elim (cases_Bool (nat_lt t y.0)) [
    | inl q ↦ ap (λ zs. slice_get zs 1) (put_now t x y ys q)
    | inr q ↦ absurd (let r = rank_later t y ys q in omega arith)
  ]
  put_after t x (y ∷ ys) (suc j) l = elim (cases_Bool (nat_lt t y.0)) [
    | inl q ↦ ap (λ zs. slice_get zs (suc (suc j))) (put_now t x y ys q)
    | inr q ↦ ap (λ zs. slice_get zs (suc (suc j))) (put_later t x y ys q)
        ∙ put_after t x ys j (let r = rank_later t y ys q in omega arith)
  ]

  -- ---- a position counted

  -- a pair that is put after no greater tag, and one that is put after a greater tag
  pub rank_put : (t u : ℕ) (x : X) (xs : List (ℕ × X)) → u ≤ t → rank t (put u x xs) ≡ rank t xs + 1
  rank_put t u x [] l = rank_later t (u, x) [] (le-ltb t u l)
  rank_put t u x (y ∷ ys) l = elim (cases_Bool (nat_lt u y.0)) [
    | inl q ↦ ap (rank t) (put_now u x y ys q) ∙ rank_later t (u, x) (y ∷ ys) (le-ltb t u l) ∙ omega arith
    | inr q ↦
        let small : nat_lt t y.0 ≡ false = le-ltb t y.0 (let k = ltb-false u y.0 q in omega arith) in
        let rest = rank_put t u x ys l in
        let a = ap (rank t) (put_later u x y ys q) ∙ rank_later t y (put u x ys) small in
        let b = rank_later t y ys small in omega arith
  ]

  pub rank_kept : (t u : ℕ) (x : X) (xs : List (ℕ × X)) → t < u → rank t (put u x xs) ≡ rank t xs + 0
  rank_kept t u x [] l = rank_now t (u, x) [] (lt-ltb t u l)
  rank_kept t u x (y ∷ ys) l = elim (cases_Bool (nat_lt u y.0)) [
    | inl q ↦
        let a = ap (rank t) (put_now u x y ys q) ∙ rank_now t (u, x) (y ∷ ys) (lt-ltb t u l) in
        let b = rank_now t y ys (lt-ltb t y.0 (let k = ltb-true u y.0 q in omega arith)) in omega arith
    | inr q ↦
        let a = ap (rank t) (put_later u x y ys q) in
        elim (cases_Bool (nat_lt t y.0)) [
          | inl r ↦ let b = rank_now t y (put u x ys) r in let d = rank_now t y ys r in omega arith
          | inr r ↦ let rest = rank_kept t u x ys l in let b = rank_later t y (put u x ys) r in let d = rank_later t y ys r in omega arith
        ]
  ]

  -- a tag that is read
  tag_read : (P : ℕ → Type 0) (xs : List (ℕ × X)) (i : ℕ) (x : ℕ × X) → AllByRecursion P (map (λ y. y.0) xs) → slice_get xs i ≡ Some x
      → P x.0
  tag_read P [] i x h e = cc
  tag_read P (y ∷ ys) zero x h e = let q : y ≡ x = cc in subst (λ (z : ℕ × X). P z.0) q h.0
  tag_read P (y ∷ ys) (suc i) x h e = tag_read P ys i x h.1 e

  -- if tags rise: all before a tag that isn't greater aren't greater either, and none after a greater one counts
  pub rank_after : (t : ℕ) (xs : List (ℕ × X)) (i : ℕ) (x : ℕ × X) → Rising (map (λ y. y.0) xs) → slice_get xs i ≡ Some x → x.0 ≤ t
      → i + 1 ≤ rank t xs
  rank_after t [] i x r e l = cc
  rank_after t (y ∷ ys) zero x r e l =
      let q : y ≡ x = cc in
      let k = ap (λ (z : ℕ × X). z.0) q in
      let n = rank_later t y ys (le-ltb t y.0 (omega arith)) in omega arith
  rank_after t (y ∷ ys) (suc i) x r e l =
      let k = tag_read (λ u. y.0 < u) ys i x r.0 e in
      let n = rank_later t y ys (le-ltb t y.0 (omega arith)) in
      let rest = rank_after t ys i x r.1 e l in omega arith

  pub rank_before : (t : ℕ) (xs : List (ℕ × X)) (i : ℕ) (x : ℕ × X) → slice_get xs i ≡ Some x → t < x.0 → rank t xs ≤ i
  rank_before t [] i x e l = cc
  rank_before t (y ∷ ys) zero x e l =
      let q : y ≡ x = cc in
      let k = ap (λ (z : ℕ × X). z.0) q in
      let n = rank_now t y ys (lt-ltb t y.0 (omega arith)) in omega arith
  rank_before t (y ∷ ys) (suc i) x e l = elim (cases_Bool (nat_lt t y.0)) [
    | inl q ↦ let n = rank_now t y ys q in omega arith
    | inr q ↦ let n = rank_later t y ys q in let rest = rank_before t ys i x e l in omega arith
  ]

pub rank_fields : (t : ℕ) (fs : Fields) → rank t (field_items fs) ≡ rank t fs
rank_fields t [] = refl
rank_fields t (y ∷ ys) =
    elim (nat_lt t y.0) as (λ b. (if b then 0 else suc (rank t (field_items ys))) ≡ (if b then 0 else suc (rank t ys))) [
      | true ↦ refl
      | false ↦ ap suc (rank_fields t ys)
    ]

-- ---- one further entry

pub length_over : (e : Extra) (xs : List (ℕ × Item)) → length (with_extra (Some e) xs) ≡ length xs + 1
length_over e xs = length_put e.tag (item_of e.item) xs ∙ omega arith

pub pass_before : (e : Extra) (xs : List (ℕ × Item)) (i : ℕ) → i < e.place → IsAtRank (Some e) xs → i < length (with_extra (Some e) xs)
    → IsEntryAt (Under i) (Some e) xs i
pass_before e xs i l s h = let p = s.0 in let r = rank_le e.tag xs in (put_before e.tag (item_of e.item) xs i (omega arith), omega arith)

pub pass_here : (e : Extra) (xs : List (ℕ × Item)) (i : ℕ) → i ≡ e.place → IsAtRank (Some e) xs → i < length (with_extra (Some e) xs)
    → IsEntryAt (Here e.tag e.item) (Some e) xs i
pass_here e xs i q s h = (put_here e.tag (item_of e.item) xs i (q ∙ s.0), s.1)

pub pass_after : (e : Extra) (xs : List (ℕ × Item)) (i : ℕ) → e.place < i → IsAtRank (Some e) xs → i < length (with_extra (Some e) xs)
    → IsEntryAt (Under (i - 1)) (Some e) xs i
pass_after e xs zero l s h = absurd (omega arith)
pass_after e xs (suc j) l s h =
    let p = s.0 in
    let n = length_put e.tag (item_of e.item) xs in
    let k : j ≡ suc j - 1 = omega arith in
    (put_after e.tag (item_of e.item) xs j (omega arith) ∙ ap (slice_get xs) k, omega arith)

abbrev pub Passes : Step → Option Extra → ℕ → Type 0
Passes p o i = (xs : List (ℕ × Item)) → IsAtRank o xs → i < length (with_extra o xs) → IsEntryAt p o xs i

pub passes_some : (p : Step) (o : Option Extra) (e : Extra) (i : ℕ) → o ≡ Some e → Passes p (Some e) i → Passes p o i
passes_some p o e i q f = subst (λ o. Passes p o i) (sym q) f

-- an entry at n or after n leaves each index before n as it is
pub clear_passes : (o : Option Extra) (n i : ℕ) → NoneBefore n o → i < n → Passes (Under i) o i
clear_passes None n i c l xs s h = (refl, h)
clear_passes (Some e) n i c l xs s h = pass_before e xs i (omega arith) s h

-- after the steps over four further entries, the field is at the index that is left
pub passes_through : (a b c d : Option Extra) (fs : Fields) (i k j h g : ℕ) →
    Passes (Under k) d i → Passes (Under j) c k → Passes (Under h) b j → Passes (Under g) a h →
    IsAtRank a (field_items fs) → IsAtRank b (with_extra a (field_items fs)) → IsAtRank c (with_extra b (with_extra a (field_items fs)))
    → IsAtRank d (with_extra c (with_extra b (with_extra a (field_items fs)))) →
    i < length (with_extra d (with_extra c (with_extra b (with_extra a (field_items fs))))) →
    (slice_get (with_extra d (with_extra c (with_extra b (with_extra a (field_items fs))))) i ≡ option_map (λ p. (p.0, Field p.1)) (slice_get fs g)) × (g < length
    fs)
passes_through a b c d fs i k j h g pd pc pb pa sa sb sc sd l =
    let z = pd (with_extra c (with_extra b (with_extra a (field_items fs)))) sd l in
    let y = pc (with_extra b (with_extra a (field_items fs))) sc z.1 in
    let x = pb (with_extra a (field_items fs)) sb y.1 in
    let w = pa (field_items fs) sa x.1 in (
      z.0 ∙ y.0 ∙ x.0 ∙ w.0 ∙ slice_get-map (λ (p : ℕ × Value). (p.0, Field p.1)) fs g,
      subst (λ n. g < n)
          (length-map fs (λ (p : ℕ × Value). (p.0, Field p.1))) w.1,
    )

-- ---- two further entries, the upper one first

abbrev pub PassesBoth : Step → Option Extra → Option Extra → ℕ → Type 0
PassesBoth p d c i = (xs : List (ℕ × Item)) → IsAtRank c xs → IsAtRank d (with_extra c xs) → i < length (with_extra d (with_extra c xs))
    → FindsEntryAt p (with_extra d (with_extra c xs)) xs i

found_under : (p : Step) (ys zs xs : List (ℕ × Item)) (i j : ℕ) → slice_get ys i ≡ slice_get zs j → FindsEntryAt p zs xs j → FindsEntryAt p ys xs i
found_under (Here t x) ys zs xs i j e f = (e ∙ f.0, f.1)
found_under (Under k) ys zs xs i j e f = (e ∙ f.0, f.1)

pub upper_here : (t : ℕ) (x : program.Item) (d c : Option Extra) (i : ℕ) → Passes (Here t x) d i → PassesBoth (Here t x) d c i
upper_here t x d c i p xs sc sd l = p (with_extra c xs) sd l

pub passes_both : (p : Step) (d c : Option Extra) (i j : ℕ) → Passes (Under j) d i → Passes p c j → PassesBoth p d c i
passes_both p d c i j pd pc xs sc sd l =
    let z = pd (with_extra c xs) sd l in found_under p (with_extra d (with_extra c xs)) (with_extra c xs) xs i j z.0 (pc xs sc z.1)

-- past two and two more
pub both_twice : (p : Step) (a b c d : Option Extra) (ys : List (ℕ × Item)) (i j : ℕ) → PassesBoth (Under j) d c i → PassesBoth p b a j
    → IsAtRank a ys → IsAtRank b (with_extra a ys) → IsAtRank c (with_extra b (with_extra a ys)) → IsAtRank d (with_extra c (with_extra b (with_extra a ys)))
    → i < length (with_extra d (with_extra c (with_extra b (with_extra a ys)))) → FindsEntryAt p (with_extra d (with_extra c (with_extra b (with_extra a ys)))) ys i
both_twice p a b c d ys i j pd pb sa sb sc sd l =
    let z = pd (with_extra b (with_extra a ys)) sc sd l in
    found_under p (with_extra d (with_extra c (with_extra b (with_extra a ys)))) (with_extra b (with_extra a ys)) ys i j z.0 (pb ys sa sb z.1)

-- the field at the index that is left is found
pub field_found : (fs : Fields) (ys : List (ℕ × Item)) (i g : ℕ) → FindsEntryAt (Under g) ys (field_items fs) i
    → (slice_get ys i ≡ option_map (λ p. (p.0, Field p.1)) (slice_get fs g)) × (g < length fs)
field_found fs ys i g w = (
  w.0 ∙ slice_get-map (λ (p : ℕ × Value). (p.0, Field p.1)) fs g,
  subst (λ n. g < n) (length-map fs (λ (p : ℕ × Value). (p.0, Field p.1))) w.1,
)

-- the fields come before all further entries
pub clear_through : (a b c d : Option Extra) (fs : Fields) (n i : ℕ) →
    NoneBefore n a → NoneBefore n b → NoneBefore n c → NoneBefore n d →
    IsAtRank a (field_items fs) → IsAtRank b (with_extra a (field_items fs)) → IsAtRank c (with_extra b (with_extra a (field_items fs)))
    → IsAtRank d (with_extra c (with_extra b (with_extra a (field_items fs)))) → i < n →
    i < length (with_extra d (with_extra c (with_extra b (with_extra a (field_items fs))))) →
    (slice_get (with_extra d (with_extra c (with_extra b (with_extra a (field_items fs))))) i ≡ option_map (λ p. (p.0, Field p.1)) (slice_get fs i)) × (i < length
    fs)
clear_through a b c d fs n i ca cb cc cd sa sb sc sd u l =
    passes_through a b c d fs i i i i i (clear_passes d n i cd u) (clear_passes c n i cc u) (clear_passes b n i cb u)
    (clear_passes a n i ca u)
    sa sb sc sd l

-- an item that is there is counted
pub counted_in : (o : Option program.Item) (x : program.Item) → o ≡ Some x → IfSome (option_map item_of o) CountsFit → CountsFit (item_of x)
counted_in None x q h = cc
counted_in (Some y) x q h = let k : y ≡ x = cc in subst (λ z. CountsFit (item_of z)) k h

-- ---- fields

pub few_fields : (d : Dir) (fs : Fields) → AreWritableFields d fs → length fs < 2 ^ 16
few_fields d fs f = let n = few_items d (field_items fs) (good_fields d fs f) in let l = same fs in omega arith
  where
    same : (fs : Fields) → length (field_items fs) ≡ length fs
    same [] = refl
    same (p ∷ fs) = ap suc (same fs)

pub few_optional : (d : Dir) (fs : Option Fields) → IfSome fs (AreWritableFields d) → IfSome fs (λ fs. length fs < 2 ^ 16)
few_optional d None f = tt
few_optional d (Some fs) f = few_fields d fs f

pub few_exif : (e : Option ExifPart) → IfSome e IsWritableExif → IfSome e (λ e. length e.fields < 2 ^ 16)
few_exif None f = tt
few_exif (Some e) f = few_fields Exif e.fields f.fields

pub few_interop : (e : Option ExifPart) → IfSome e IsWritableExif → IfSome e (λ e. IfSome e.interop (λ fs. length fs < 2 ^ 16))
few_interop None f = tt
few_interop (Some e) f = few_optional Interop e.interop f.interop

pub few_thumb : (t : Option Thumbnail) → IfSome t IsWritableThumb → IfSome t (λ t. length t.fields < 2 ^ 16)
few_thumb None f = tt
few_thumb (Some t) f = few_fields Thumb t.fields f.fields

-- ---- the lengths of strips

pub lengths_counted : (s : List (List ℕ)) → AllByRecursion IsBytes s → AllByRecursion (λ n. n ≤ limit) (map (λ x. length x) s)
lengths_counted [] h = tt
lengths_counted (x ∷ s) h = (h.0.most, lengths_counted s h.1)

pub strips_counted : (o : Option (List (List ℕ))) (s : List (List ℕ)) → o ≡ Some s
    → IfSome o (λ s. (length s ≤ limit) × AllByRecursion IsBytes s) → CountsFit (StripSizes (map (λ x. length x) s))
strips_counted None s q h = cc
strips_counted (Some t) s q h = let k : t ≡ s = cc in
    subst (λ (s : List (List ℕ)). CountsFit (StripSizes (map (λ x. length x) s))) k
    (subst (λ n. n ≤ limit) (sym (length-map t (λ x. length x))) h.0, lengths_counted t h.1)

-- ---- the entries of each directory

pub option_map_is_some : {X Y : Type 0} (f : X → Y) (o : Option X) → is_some (option_map f o) ≡ is_some o
option_map_is_some f None = refl
option_map_is_some f (Some x) = refl

pub items_are : (m : Meaning) →
    (items m Main ≡ Some (main_items m)) × (items m Exif ≡ option_map exif_items m.exif)
    × (items m Interop ≡ option_and_then (λ e. option_map field_items e.interop) m.exif)
    × (items m Gps ≡ option_map field_items m.gps) × (items m Thumb ≡ option_map thumb_items m.thumb)
unfolding items
items_are m = (refl, refl, refl, refl, refl)
