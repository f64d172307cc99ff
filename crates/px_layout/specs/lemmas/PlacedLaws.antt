-- In a legal block of a meaning that fits, each entry of each directory is at its offset.
use Rattle.std.proofs.Common.{◌≡◌, ℕ, ◌+◌, ◌*◌, ◌^◌, ◌<◌, ◌≤◌, inl, inr, nat_lt, true, Option, Some, None, List, [], ◌∷◌, ◌++◌, filter_map}
use Rattle.std.proofs.Common.{flat_map, length, subst, arith, ltb-false}
use Rattle.std.specs.Prelude.{IfSome}
use Rattle.std.specs.List.{AllByRecursion, cons_option}
use Rattle.std.proofs.lemmas.Bool.{cond-true, cases_Bool}
use Rattle.px_bytes.specs.declared.Order.{Order}
use Rattle.px_bytes.specs.lemmas.EachLaws.{each_map₂, each_in_map, each_left, each_right}
use Rattle.px_field.specs.declared.Form.{Form}
use Rattle.px_field.specs.declared.Form.TheVariants.{Byte, Ascii, Short, Long, Rational, SByte, Undefined, SShort, SLong, SRational, Float}
use Rattle.px_field.specs.declared.Form.TheVariants.{Double, Utf8}
use Rattle.px_field.specs.Forms.{size}
use Rattle.px_meaning.specs.declared.Dir.{Dir}
use Rattle.px_meaning.specs.declared.Dir.TheVariants.{Main, Exif, Interop, Gps, Thumb}
use Rattle.px_meaning.specs.Tree.{Meaning}
use Rattle.px_meaning.specs.Roles.{role}
use Rattle.px_meaning.specs.Directory.{dirs}
use Rattle.px_meaning.specs.Writable.{Item, item_form, item_count, item_size, items, IsWritable}
use Rattle.px_layout.specs.declared.chunks.Chunk.{Chunk}
use Rattle.px_layout.specs.declared.chunks.Chunk.TheVariants.{Table, Placed}
use Rattle.px_layout.specs.Plans.{Plan, place, Legal}
use Rattle.px_layout.specs.Laid.{item_bytes, table_bytes, placed_content, contents_of_dir, thumb_contents, contents, header, laid_pieces}
use Rattle.px_layout.specs.Laid.{laid}
use Rattle.px_layout.specs.lemmas.PlacementLaws.{IsPlaced, length_mapped}
use Rattle.px_layout.specs.lemmas.ItemLaws.{Suits, IsHere, length_is}
use Rattle.px_layout.specs.lemmas.EntryLaws.{Good, good_items, few_items}
use Rattle.px_layout.specs.lemmas.SizeLaws.{pieces_placed}

count_le : (f : Form) (n : ℕ) → n ≤ n * size f
count_le Byte n = omega arith
count_le Ascii n = omega arith
count_le Short n = omega arith
count_le Long n = omega arith
count_le Rational n = omega arith
count_le SByte n = omega arith
count_le Undefined n = omega arith
count_le SShort n = omega arith
count_le SLong n = omega arith
count_le SRational n = omega arith
count_le Float n = omega arith
count_le Double n = omega arith
count_le Utf8 n = omega arith

all_cons_option : {Y : Type 0} (P : Y → Type 0) (o : Option Y) (ys : List Y) → AllByRecursion P (cons_option o ys)
    → ((y : Y) → o ≡ Some y → P y) × AllByRecursion P ys
all_cons_option P None ys a = (λ y e. cc, a)
all_cons_option P (Some z) ys a = (λ y e. let k : z ≡ y = cc in subst P k a.0, a.1)

each_picked : {X Y : Type 0} (P : Y → Type 0) (h : X → Option Y) (xs : List X) → AllByRecursion P (filter_map h xs)
    → AllByRecursion (λ x. (y : Y) → h x ≡ Some y → P y) xs
each_picked P h [] a = tt
each_picked P h (x ∷ xs) a = let q = all_cons_option P (h x) (filter_map h xs) a in (q.0, each_picked P h xs q.1)

module _ (m : Meaning) (plan : Plan) (o : Order) (filler : ℕ) (f : IsWritable m) (l : Legal m plan) where
  abbrev pub block : List ℕ
  block = laid m plan o filler

  pub length_block : length block ≡ plan.length
  unfolding laid
  length_block = length_mapped _ plan.length

  -- a chunk at its offset
  abbrev pub Here : Chunk × List ℕ → Type 0
  Here c = IsPlaced block (place plan c.0) c.1

  all_here : AllByRecursion (λ y. IsPlaced block y.0 y.1) (laid_pieces plan o filler m)
  all_here = pieces_placed plan o filler m f l

  pub header_here : IsPlaced block 0 (header plan o filler)
  unfolding laid_pieces
  header_here = all_here.0

  contents_here : AllByRecursion Here (contents plan o filler m)
  unfolding laid_pieces
  contents_here = each_in_map (λ y. IsPlaced block y.0 y.1) (λ c. (place plan c.0, c.1)) (contents plan o filler m) all_here.1

  abbrev of_dir : Dir → List (Chunk × List ℕ)
  of_dir d = contents_of_dir plan o filler m d (items m d)

  dirs_here : AllByRecursion Here (flat_map of_dir dirs)
  unfolding contents
  dirs_here = each_left Here (flat_map of_dir dirs) (thumb_contents m.thumb) contents_here

  pub thumb_here : AllByRecursion Here (thumb_contents m.thumb)
  unfolding contents
  thumb_here = each_right Here (flat_map of_dir dirs) (thumb_contents m.thumb) contents_here

  from_exif : AllByRecursion Here (of_dir Exif ++ (of_dir Interop ++ (of_dir Gps ++ (of_dir Thumb ++ []))))
  from_exif = each_right Here (of_dir Main) _ dirs_here

  from_interop : AllByRecursion Here (of_dir Interop ++ (of_dir Gps ++ (of_dir Thumb ++ [])))
  from_interop = each_right Here (of_dir Exif) _ from_exif

  from_gps : AllByRecursion Here (of_dir Gps ++ (of_dir Thumb ++ []))
  from_gps = each_right Here (of_dir Interop) _ from_interop

  dir_here : (d : Dir) → AllByRecursion Here (of_dir d)
  dir_here Main = each_left Here (of_dir Main) _ dirs_here
  dir_here Exif = each_left Here (of_dir Exif) _ from_exif
  dir_here Interop = each_left Here (of_dir Interop) _ from_interop
  dir_here Gps = each_left Here (of_dir Gps) _ from_gps
  dir_here Thumb = each_left Here (of_dir Thumb) [] (each_right Here (of_dir Gps) _ from_gps)

  pub placed_near : (x : ℕ) (y : List ℕ) → IsPlaced block x y → x + length y < 2 ^ 32
  placed_near x y s = let i = s.inside in let b = length_block in let k = l.most in omega arith

  -- a directory of the meaning with its entries
  module _ (d : Dir) (xs : List (ℕ × Item)) (is : items m d ≡ Some xs) where
    pub good_dir : Good d xs
    good_dir = subst (λ x. IfSome x (Good d)) is (good_items m f d)

    dir_contents : AllByRecursion Here (contents_of_dir plan o filler m d (Some xs))
    dir_contents = subst (λ x. AllByRecursion Here (contents_of_dir plan o filler m d x)) is (dir_here d)

    pub table_here : IsPlaced block (place plan (Table d)) (table_bytes plan o filler m d xs)
    table_here = dir_contents.0

    pub table_near : place plan (Table d) < 2 ^ 32
    table_near = let n = placed_near (place plan (Table d)) (table_bytes plan o filler m d xs) table_here in omega arith

    item_here : (i : ℕ × Item) → i.0 < 2 ^ 16 × Suits (role d i.0) i.1
        → ((c : Chunk × List ℕ) → placed_content plan o filler d i ≡ Some c → Here c) → IsHere plan o filler block d i
    unfolding placed_content item_size
    item_here i g h = record {
      tag = g.0;
      suits = g.1;
      count = elim (cases_Bool (nat_lt 4 (item_size i.1))) [
        | inl t ↦ let n = placed_near (place plan (Placed d i.0)) (item_bytes plan o filler i.1) (placed t) in
            let s = length_is plan o filler d i g.1 in let c = count_le (item_form i.1) (item_count i.1) in omega arith
        | inr t ↦ let k = ltb-false 4 (item_size i.1) t in let c = count_le (item_form i.1) (item_count i.1) in omega arith
      ];
      bounded = elim (cases_Bool (nat_lt 4 (item_size i.1))) [
        | inl t ↦ let n =
            (placed t).inside in let b = length_block in let k = l.most in let s = length_is plan o filler d i g.1 in omega arith
        | inr t ↦ let k = ltb-false 4 (item_size i.1) t in omega arith
      ];
      near = λ t. let n = placed_near (place plan (Placed d i.0)) (item_bytes plan o filler i.1) (placed t) in omega arith;
      placed = placed;
    }
      where
        placed : nat_lt 4 (item_size i.1) ≡ true → IsPlaced block (place plan (Placed d i.0)) (item_bytes plan o filler i.1)
        placed t =
            h (Placed d i.0, item_bytes plan o filler i.1) (cond-true (nat_lt 4 (item_size i.1))
            (Some (Placed d i.0, item_bytes plan o filler i.1)) None t)

    pub items_here : AllByRecursion (IsHere plan o filler block d) xs
    items_here =
        each_map₂ (λ i. i.0 < 2 ^ 16 × Suits (role d i.0) i.1) (λ i. (c : Chunk × List ℕ) → placed_content plan o filler d i ≡ Some
        c → Here c) (IsHere plan o filler block d) item_here xs
        (each_map₂ (λ i. i.0 < 2 ^ 16) (λ i. Suits (role d i.0) i.1) (λ i. i.0 < 2 ^ 16 × Suits (role d i.0) i.1) (λ i a b. (a, b)) xs
        good_dir.tags good_dir.suit)
        (each_picked Here (placed_content plan o filler d) xs dir_contents.1)

    pub some_items : 1 ≤ length xs
    some_items = subst (λ x. IfSome x (λ xs. 1 ≤ length xs)) is (filled d)
      where
        filled : (d : Dir) → IfSome (items m d) (λ xs. 1 ≤ length xs)
        filled Main = f.filled.0
        filled Exif = f.filled.1.0
        filled Interop = f.filled.1.1.0
        filled Gps = f.filled.1.1.1.0
        filled Thumb = f.filled.1.1.1.1.0

    pub entries_few : length xs < 2 ^ 16
    entries_few = few_items d xs good_dir
