-- A directory that is laid out reads back.
use Rattle.std.proofs.Common.{◌≡◌, ℕ, ◌+◌, ◌*◌, ◌^◌, ◌<◌, ◌≤◌, nat_le, true, Option, List, [], ◌∷◌, ◌++◌, map, filter_map, flat_map, length}
use Rattle.std.proofs.Common.{take, drop, refl, sym, ◌∙◌, ap, ap₂, subst, arith, le-leb}
use Rattle.std.specs.List.{AllByRecursion, cons_option}
use Rattle.std.proofs.lemmas.List.{take_at, drop_at, take-take, drop-drop}
use Rattle.std.proofs.lemmas.Bool.{cond-true, and_from}
use Rattle.px_bytes.specs.declared.Order.{Order}
use Rattle.px_bytes.specs.Numbers.{number, spelling}
use Rattle.px_bytes.specs.Parts.{part, pieces}
use Rattle.px_bytes.specs.lemmas.NumberLaws.{length_spelling, number_spelling}
use Rattle.px_bytes.specs.lemmas.EachLaws.{each_map, map_each, map_map}
use Rattle.px_field.specs.lemmas.PieceLaws.{pieces_joined}
use Rattle.px_meaning.specs.declared.Dir.{Dir}
use Rattle.px_meaning.specs.Tree.{Meaning}
use Rattle.px_meaning.specs.Entry.{Entry, entry, short, long, table_size, has_table, table, entries, next, IsEntry, Rising, IsDirectory}
use Rattle.px_meaning.specs.Entry.{field}
use Rattle.px_meaning.specs.Entry.{fields}
use Rattle.px_meaning.specs.Writable.{Item}
use Rattle.px_meaning.specs.Roles.{role}
use Rattle.px_layout.specs.declared.chunks.Chunk.TheVariants.{Table}
use Rattle.px_layout.specs.Plans.{Plan, place}
use Rattle.px_layout.specs.Laid.{entry_bytes, next_bytes, table_bytes}
use Rattle.px_layout.specs.lemmas.PlacementLaws.{IsPlaced}
use Rattle.px_layout.specs.lemmas.SizeLaws.{length_table, length_entries, entries_twelve}
use Rattle.px_layout.specs.lemmas.ItemLaws.{Suits, item_field, IsHere, entry_of, entry_is}
use Rattle.px_layout.specs.lemmas.ReadLaws.{field_is, entry_in_order}

pub filter_map_each : {X Y Z : Type 0} (g : Y → Option Z) (f : X → Y) (h : X → Option Z) (xs : List X)
    → AllByRecursion (λ x. g (f x) ≡ h x) xs → filter_map g (map f xs) ≡ filter_map h xs
filter_map_each g f h [] e = refl
filter_map_each g f h (x ∷ xs) e = ap₂ cons_option e.0 (filter_map_each g f h xs e.1)

pub each_along : {X Y : Type 0} (P : Y → Type 0) (f : X → Y) (xs : List X) → AllByRecursion (λ x. P (f x)) xs → AllByRecursion P (map f xs)
each_along P f [] h = tt
each_along P f (x ∷ xs) h = (h.0, each_along P f xs h.1)

module _ (plan : Plan) (o : Order) (filler : ℕ) (b : List ℕ) (m : Meaning) (d : Dir) (xs : List (ℕ × Item))
    (here : AllByRecursion (IsHere plan o filler b d) xs) (some : 1 ≤ length xs) (few : length xs < 2 ^ 16)
    (t : IsPlaced b (place plan (Table d)) (table_bytes plan o filler m d xs)) where
  unfoldable pub bytes : List ℕ
  bytes = table_bytes plan o filler m d xs

  abbrev pub at : ℕ
  at = place plan (Table d)

  suit : AllByRecursion (λ i. Suits (role d i.0) i.1) xs
  suit = each_map (IsHere plan o filler b d) (λ i. Suits (role d i.0) i.1) (λ i h. h.suits) xs here

  length_bytes : length bytes ≡ table_size (length xs)
  unfolding bytes
  length_bytes = length_table plan o filler d xs suit m

  first_2 : take 2 bytes ≡ spelling o 2 (length xs)
  unfolding bytes table_bytes
  first_2 =
      take_at (spelling o 2 (length xs)) (flat_map (entry_bytes plan o filler d) xs
      ++ next_bytes plan o filler m d) 2 (length_spelling o 2 (length xs))

  after_2 : drop 2 bytes ≡ flat_map (entry_bytes plan o filler d) xs ++ next_bytes plan o filler m d
  unfolding bytes table_bytes
  after_2 =
      drop_at (spelling o 2 (length xs)) (flat_map (entry_bytes plan o filler d) xs
      ++ next_bytes plan o filler m d) 2 (length_spelling o 2 (length xs))

  count_of : short o (take 2 bytes) ≡ length xs
  count_of = ap (number o 2) first_2 ∙ number_spelling o 2 (length xs) few

  placed : part b at (length bytes) ≡ bytes
  unfolding bytes
  placed = t.is

  pub count_is : short o (part b at 2) ≡ length xs
  count_is =
      ap (number o 2) (sym (take-take 2 (length bytes) (drop at b) (let l = length_bytes in omega arith)) ∙ ap (take 2) placed) ∙ count_of

  pub has_table_is : has_table b o at ≡ true
  unfolding has_table bytes
  has_table_is =
      let n = short o (part b at 2) in
      let c : n ≡ length xs = count_is in
      let i : at + length bytes ≤ length b = t.inside in
      let p : 1 ≤ n = omega arith in
      let q : at + table_size n ≤ length b = (let l = length_bytes in omega arith) in
      and_from (nat_le 1 n) (nat_le (at + table_size n) (length b)) (le-leb 1 n p) (le-leb (at + table_size n) (length b) q)

  pub table_is : table b o at ≡ bytes
  unfolding table
  table_is = cond-true (has_table b o at) (part b at (table_size (short o (part b at 2)))) [] has_table_is
      ∙ ap (part b at) (ap table_size count_is ∙ sym length_bytes) ∙ placed

  pub entries_are : entries o (table b o at) ≡ map (entry_of plan o filler d) xs
  unfolding entries
  entries_are = ap (λ t. map (entry o) (pieces (short o (take 2 t)) 12 (drop 2 t))) table_is
      ∙ ap (map (entry o)) (ap₂ (λ n y. pieces n 12 y) count_of after_2
      ∙ pieces_joined 12 (entry_bytes plan o filler d) xs (next_bytes plan o filler m d) (entries_twelve plan o filler d xs suit))
      ∙ map_map (entry o) (entry_bytes plan o filler d) xs
      ∙ map_each (λ i. entry o (entry_bytes plan o filler d i)) (entry_of plan o filler d) xs
      (each_map (IsHere plan o filler b d) (λ i. entry o (entry_bytes plan o filler d i) ≡ entry_of plan o filler d i)
      (λ i h. entry_is plan o filler b d i h) xs here)

  pub next_is : next o (table b o at) ≡ long o (next_bytes plan o filler m d)
  unfolding next
  next_is = ap (λ t. long o (drop (2 + 12 * short o (take 2 t)) t)) table_is
      ∙ ap (number o 4) (ap (λ n. drop (2 + 12 * n) bytes) count_of ∙ sym (drop-drop (12 * length xs) 2 bytes)
      ∙ ap (drop (12 * length xs)) after_2
      ∙ drop_at (flat_map (entry_bytes plan o filler d) xs) (next_bytes plan o filler m d) (12 * length xs)
      (let e = length_entries plan o filler d xs suit in omega arith))

  pub fields_are : fields b o d at ≡ filter_map item_field xs
  unfolding fields
  fields_are = ap (filter_map (field b o d)) entries_are
      ∙ filter_map_each (field b o d) (entry_of plan o filler d) item_field xs
      (each_map (IsHere plan o filler b d) (λ i. field b o d (entry_of plan o filler d i) ≡ item_field i)
      (λ i h. field_is plan o filler b d i h) xs here)

  tags : map (λ (e : Entry). e.tag) (map (entry_of plan o filler d) xs) ≡ map (λ i. i.0) xs
  unfolding entry_of
  tags = map_map (λ (e : Entry). e.tag) (entry_of plan o filler d) xs

  pub directory_placed : Rising (map (λ i. i.0) xs) → IsDirectory b o d at
  directory_placed r = record {
    there = has_table_is;
    rising = subst (λ es. Rising (map (λ e. e.tag) es)) (sym entries_are) (subst Rising (sym tags) r);
    each = subst (AllByRecursion (IsEntry b o d)) (sym entries_are) (each_along (IsEntry b o d) (entry_of plan o filler d) xs
        (each_map (IsHere plan o filler b d) (λ i. IsEntry b o d (entry_of plan o filler d i))
        (λ i h. entry_in_order plan o filler b d i h) xs here));
  }
