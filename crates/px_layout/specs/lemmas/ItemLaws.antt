-- An entry that is laid out reads back as its item.
use Rattle.std.proofs.Common.{◌≡◌, ℕ, ◌+◌, ◌-◌, ◌*◌, ◌^◌, ◌<◌, ◌≤◌, nat_lt, nat_le, true, false, Option, Some, None, option_map, List, []}
use Rattle.std.proofs.Common.{◌∷◌, ◌++◌, length, take, replicate, refl, sym, ◌∙◌, ap, ap₂, arith, ltb-false, le-leb, inl, inr}
use Rattle.std.specs.List.{AllByRecursion, range_with_len}
use Rattle.std.specs.Prelude.{⊤}
use Rattle.std.proofs.lemmas.List.{take_at, take_all, length-append, length-replicate}
use Rattle.std.proofs.lemmas.Bool.{cond-true, cond-false, cases_Bool}
use Rattle.px_bytes.specs.declared.Order.{Order}
use Rattle.px_bytes.specs.declared.Order.TheVariants.{Least, Most}
use Rattle.px_bytes.specs.Numbers.{number, spelling}
use Rattle.px_bytes.specs.Parts.{limit, part}
use Rattle.px_bytes.specs.lemmas.NumberLaws.{length_spelling, number_spelling}
use Rattle.px_bytes.specs.lemmas.EachLaws.{each_all}
use Rattle.px_field.specs.Forms.{code}
use Rattle.px_field.specs.lemmas.FormLaws.{form_of_code, code_lt}
use Rattle.px_field.specs.Values.{Value, IsValue}
use Rattle.px_field.specs.lemmas.ValueLaws.{length_encoded}
use Rattle.px_field.specs.lemmas.PieceLaws.{length_joined}
use Rattle.px_iim.specs.lemmas.RecordLaws.{meaning_is_computed}
use Rattle.px_iim.specs.lemmas.NormalLaws.{form_has_meaning}
use Rattle.px_meaning.specs.Iim.{Iim, iim_of, IsRecord, normal_iim}
use Rattle.px_meaning.specs.declared.Dir.{Dir}
use Rattle.px_meaning.specs.declared.Role.{Role}
use Rattle.px_meaning.specs.declared.Role.TheVariants.{Plain, Widened, Record, JpegOffset, JpegLength, StripOffsets, StripLengths, To}
use Rattle.px_meaning.specs.Roles.{role}
use Rattle.px_meaning.specs.Entry.{Entry, entry, sized, raw_size, is_placed, offset, raw, has_raw}
use Rattle.px_meaning.specs.Writable.{Item, Field, Iptc, Link, AtJpeg, JpegSize, AtStrips, StripSizes, item_form, item_count, item_size}
use Rattle.px_meaning.specs.Writable.{Allows}
use Rattle.px_layout.specs.declared.chunks.Chunk.TheVariants.{Placed}
use Rattle.px_layout.specs.declared.chunks.Chunk.TheVariants as chunk
use Rattle.px_layout.specs.Plans.{Plan, place}
use Rattle.px_layout.specs.Laid.{long_bytes, item_bytes, last_bytes, entry_bytes}
use Rattle.px_layout.specs.lemmas.PlacementLaws.{IsPlaced, length_range}

-- a record's normal form reads back
pub iim_normal : (i : Iim) → IsRecord i → length (normal_iim i) ≤ limit → iim_of (normal_iim i) ≡ Some i
iim_normal i h l = meaning_is_computed (normal_iim i) i ((form_has_meaning i h).2 l)

-- an encoded entry is decoded to itself
pub entry_encoded : (o : Order) (t c n : ℕ) (last : List ℕ) → t < 2 ^ 16 → c < 2 ^ 16 → n < 2 ^ 32 → length last ≡ 4 →
    entry o (spelling o 2 t ++ (spelling o 2 c ++ (spelling o 4 n ++ last))) ≡ record { tag = t; code = c; count = n; last = last }
unfolding entry
entry_encoded Least t c n last ht hc hn hl i = record {
  tag = number_spelling Least 2 t ht i;
  code = number_spelling Least 2 c hc i;
  count = number_spelling Least 4 n hn i;
  last = take_all 4 last (omega arith) i;
}
entry_encoded Most t c n last ht hc hn hl i = record {
  tag = number_spelling Most 2 t ht i;
  code = number_spelling Most 2 c hc i;
  count = number_spelling Most 4 n hn i;
  last = take_all 4 last (omega arith) i;
}

-- the items that a role allows
abbrev pub Suits : Role → Item → Type 0
Suits (To d) (Link e) = d ≡ e
Suits JpegOffset AtJpeg = ⊤
Suits JpegLength (JpegSize n) = ⊤
Suits StripOffsets (AtStrips n) = ⊤
Suits StripLengths (StripSizes ns) = ⊤
Suits Record (Iptc i) = IsRecord i
Suits Plain (Field v) = IsValue v × Allows Plain v
Suits Widened (Field v) = IsValue v × Allows Widened v
Suits Record (Field v) = IsValue v × Allows Record v
Suits _ _ = ⊥

-- the field of an item, if it is one
abbrev pub item_value : Item → Option Value
item_value (Field v) = Some v
item_value _ = None

abbrev pub item_field : ℕ × Item → Option (ℕ × Value)
item_field i = option_map (λ v. (i.0, v)) (item_value i.1)

module _ (plan : Plan) (o : Order) (filler : ℕ) where
  pub length_item : (r : Role) (i : Item) → Suits r i → length (item_bytes plan o filler i) ≡ item_size i
  unfolding item_bytes item_size
  length_item Plain (Field v) h = length_encoded o v h.0
  length_item Widened (Field v) h = length_encoded o v h.0
  length_item Record (Field v) h = length_encoded o v h.0
  length_item Record (Iptc i) h = omega arith
  length_item (To d) (Link e) h = length_spelling o 4 (place plan (chunk.Table e))
  length_item JpegOffset AtJpeg h = length_spelling o 4 (place plan chunk.Jpeg)
  length_item JpegLength (JpegSize n) h = length_spelling o 4 n
  length_item StripOffsets (AtStrips n) h =
      length_joined 4 (λ i. long_bytes o (place plan (chunk.Strip i))) (range_with_len 0 n)
      (each_four (λ i. place plan (chunk.Strip i)) (range_with_len 0 n)) ∙ ap (λ k. k * 4) (length_range 0 n)
    where
      each_four : (g : ℕ → ℕ) (xs : List ℕ) → AllByRecursion (λ x. length (spelling o 4 (g x)) ≡ 4) xs
      each_four g [] = tt
      each_four g (x ∷ xs) = (length_spelling o 4 (g x), each_four g xs)
  length_item StripLengths (StripSizes ns) h =
      length_joined 4 (long_bytes o) ns (each_all (λ n. length (spelling o 4 n) ≡ 4) (λ n. length_spelling o 4 n) ns)
  length_item _ _ h = absurd h

  -- the entry that an item makes
  unfoldable pub entry_of : Dir → ℕ × Item → Entry
  entry_of d i = record { tag = i.0; code = code (item_form i.1); count = item_count i.1; last = last_bytes plan o filler d i }

  -- an item at its offset in a block
  pub record IsHere (b : List ℕ) (d : Dir) (i : ℕ × Item) : Type 0 where
    pub tag : i.0 < 2 ^ 16
    pub count : item_count i.1 < 2 ^ 32
    pub bounded : item_size i.1 ≤ limit
    pub suits : Suits (role d i.0) i.1
    pub near : nat_lt 4 (item_size i.1) ≡ true → place plan (Placed d i.0) < 2 ^ 32
    pub placed : nat_lt 4 (item_size i.1) ≡ true → IsPlaced b (place plan (Placed d i.0)) (item_bytes plan o filler i.1)

  module _ (d : Dir) (i : ℕ × Item) (s : Suits (role d i.0) i.1) where
    pub length_is : length (item_bytes plan o filler i.1) ≡ item_size i.1
    length_is = length_item (role d i.0) i.1 s

    pub length_last : length (last_bytes plan o filler d i) ≡ 4
    unfolding last_bytes
    length_last = elim (cases_Bool (nat_lt 4 (item_size i.1))) [
      | inl t ↦ ap (λ x. length x) (cond-true (nat_lt 4 (item_size i.1)) (long_bytes o (place plan (Placed d i.0)))
          (item_bytes plan o filler i.1 ++ replicate (4 - item_size i.1) filler) t) ∙ length_spelling o 4 (place plan (Placed d i.0))
      | inr n ↦ ap (λ x. length x) (cond-false (nat_lt 4 (item_size i.1)) (long_bytes o (place plan (Placed d i.0)))
          (item_bytes plan o filler i.1 ++ replicate (4 - item_size i.1) filler) n)
          ∙ (let a = length-append (item_bytes plan o filler i.1) (replicate (4 - item_size i.1) filler) in
          let r = length-replicate (4 - item_size i.1) filler in
          let l = length_is in
          let k = ltb-false 4 (item_size i.1) n in omega arith)
    ]

    pub length_entry : length (entry_bytes plan o filler d i) ≡ 12
    unfolding entry_bytes
    length_entry = twelve o (last_bytes plan o filler d i) length_last
      where
        twelve : (o : Order) (x : List ℕ) → length x ≡ 4 → length
            (spelling o 2 i.0 ++ (spelling o 2 (code (item_form i.1)) ++ (spelling o 4 (item_count i.1) ++ x))) ≡ 12
        twelve Least x e = omega arith
        twelve Most x e = omega arith

  module _ (b : List ℕ) (d : Dir) (i : ℕ × Item) (h : IsHere b d i) where
    pub size_is : raw_size (entry_of d i) ≡ item_size i.1
    unfolding raw_size entry_of item_size
    size_is = ap (λ f. sized f (item_count i.1)) (form_of_code (item_form i.1))

    pub entry_is : entry o (entry_bytes plan o filler d i) ≡ entry_of d i
    unfolding entry_bytes entry_of
    entry_is =
        entry_encoded o i.0 (code (item_form i.1)) (item_count i.1) (last_bytes plan o filler d i) h.tag (code_lt (item_form i.1)) h.count
        (length_last d i h.suits)

    pub placed_as : is_placed (entry_of d i) ≡ nat_lt 4 (item_size i.1)
    placed_as = ap (nat_lt 4) size_is

    pub offset_is : nat_lt 4 (item_size i.1) ≡ true → offset o (entry_of d i) ≡ place plan (Placed d i.0)
    unfolding entry_of last_bytes
    offset_is t =
        ap (number o 4) (cond-true (nat_lt 4 (item_size i.1)) (long_bytes o (place plan (Placed d i.0)))
        (item_bytes plan o filler i.1 ++ replicate (4 - item_size i.1) filler) t)
        ∙ number_spelling o 4 (place plan (Placed d i.0)) (h.near t)

    last_is : nat_lt 4 (item_size i.1) ≡ false → (entry_of d i).last ≡ item_bytes plan o filler i.1 ++ replicate (4 - item_size i.1) filler
    unfolding entry_of last_bytes
    last_is t =
        cond-false (nat_lt 4 (item_size i.1)) (long_bytes o (place plan (Placed d i.0))) (item_bytes plan o filler i.1
        ++ replicate (4 - item_size i.1) filler) t

    pub raw_is : raw b o (entry_of d i) ≡ item_bytes plan o filler i.1
    unfolding raw
    raw_is = elim (cases_Bool (nat_lt 4 (item_size i.1))) [
      | inl t ↦ cond-true (is_placed (entry_of d i)) (part b (offset o (entry_of d i)) (raw_size (entry_of d i)))
          (take (raw_size (entry_of d i)) (entry_of d i).last) (placed_as ∙ t)
          ∙ ap₂ (part b) (offset_is t) (size_is ∙ sym (length_is d i h.suits)) ∙ (h.placed t).is
      | inr n ↦ cond-false (is_placed (entry_of d i)) (part b (offset o (entry_of d i)) (raw_size (entry_of d i)))
          (take (raw_size (entry_of d i)) (entry_of d i).last) (placed_as ∙ n)
          ∙ ap₂ take (size_is ∙ sym (length_is d i h.suits)) (last_is n)
          ∙ take_at (item_bytes plan o filler i.1) (replicate (4 - item_size i.1) filler) (length (item_bytes plan o filler i.1)) refl
    ]

    pub has_raw_is : has_raw b o (entry_of d i) ≡ true
    unfolding has_raw
    has_raw_is = elim (cases_Bool (nat_lt 4 (item_size i.1))) [
      | inl t ↦ cond-true (is_placed (entry_of d i)) (nat_le (offset o (entry_of d i) + raw_size (entry_of d i)) (length b)) true
          (placed_as ∙ t)
          ∙ le-leb _ _ (let a = offset_is t in let s = size_is in let l = (length_is d i h.suits) in let k = (h.placed t).inside in omega
          arith)
      | inr n ↦ cond-false (is_placed (entry_of d i)) (nat_le (offset o (entry_of d i) + raw_size (entry_of d i)) (length b)) true
          (placed_as ∙ n)
    ]
