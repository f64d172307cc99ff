-- The bytes of entries and of directories, part by part.
use Rattle.std.proofs.Common.{◌≡◌, ℕ, ◌+◌, ◌-◌, ◌*◌, ◌%◌, ◌≤◌, nat_lt, inl, inr, Some, None, List, [], ◌∷◌, ◌++◌, length, replicate}
use Rattle.std.proofs.Common.{filter_map, flat_map, refl, sym, ◌∙◌, ap, ap₂, append_assoc, append-nil, arith}
use Rattle.std.specs.List.{cons_option}
use Rattle.std.proofs.lemmas.Bool.{cond-true, cond-false, cases_Bool, le-ltb}
use Rattle.std.proofs.lemmas.List.Concat.{flat_map-append}
use Rattle.std.proofs.Math.Nat.{mul-mod_left}
use Rattle.px_bytes.specs.declared.Order.{Order}
use Rattle.px_bytes.specs.declared.Order.TheVariants.{Most}
use Rattle.px_bytes.specs.Numbers.{spelling}
use Rattle.px_field.specs.Forms.{code}
use Rattle.px_meaning.specs.declared.Dir.{Dir}
use Rattle.px_meaning.specs.declared.Dir.TheVariants.{Main}
use Rattle.px_meaning.specs.Tree.{Meaning}
use Rattle.px_meaning.specs.Entry.{table_size}
use Rattle.px_meaning.specs.Roles.{role}
use Rattle.px_meaning.specs.Directory.{magic, dirs}
use Rattle.px_meaning.specs.Writable.{Item, item_form, item_count, item_size, items}
use Rattle.px_layout.specs.declared.chunks.Chunk.TheVariants.{Table, Placed}
use Rattle.px_layout.specs.Plans.{Plan, place}
use Rattle.px_layout.specs.Laid.{long_bytes, item_bytes, last_bytes, entry_bytes, next_bytes, table_bytes, placed_content, contents_of_dir}
use Rattle.px_layout.specs.Laid.{thumb_contents, contents, header}
use Rattle.px_layout.specs.Normal.{padded}
use Rattle.px_layout.specs.calls.Given.{head_bytes}
use Rattle.px_layout.specs.calls.Placed.{placed_bytes}
use Rattle.px_layout.specs.lemmas.ItemLaws.{Suits, length_is}
use Rattle.px_layout.specs.lemmas.EntryLaws.{Good}
use Rattle.px_layout.specs.lemmas.SizeLaws.{length_table}
use Rattle.px_layout.specs.lemmas.StripLaws.{padded_content}

module _ (plan : Plan) (o : Order) (filler : ℕ) where
  pub header_as : (x : List ℕ) (n : ℕ) → x ≡ magic o → n ≡ place plan (Table Main) → x ++ long_bytes o n ≡ header plan o filler
  unfolding header
  header_as x n e f = ap₂ (λ y k. y ++ long_bytes o k) e f

  -- the value is in the entry
  pub last_inside : (d : Dir) (i : ℕ × Item) (n : ℕ) → n ≡ item_size i.1 → n ≤ 4
      → item_bytes plan o filler i.1 ++ replicate (4 - n) filler ≡ last_bytes plan o filler d i
  unfolding last_bytes
  last_inside d i n e l =
      ap (λ k. item_bytes plan o filler i.1 ++ replicate (4 - k) filler) e
      ∙ sym (cond-false (nat_lt 4 (item_size i.1)) (long_bytes o (place plan (Placed d i.0))) (item_bytes plan o filler i.1
      ++ replicate (4 - item_size i.1) filler) (le-ltb 4 (item_size i.1) (omega arith)))

  pub entry_as : (d : Dir) (i : ℕ × Item) (head : List ℕ) → head ≡ head_bytes o i
      → head ++ last_bytes plan o filler d i ≡ entry_bytes plan o filler d i
  unfolding entry_bytes
  entry_as d i head e =
      let last = last_bytes plan o filler d i in
      let tag = spelling o 2 i.0 in
      let form = spelling o 2 (code (item_form i.1)) in
      let count = long_bytes o (item_count i.1) in
      ap (λ x. x ++ last) e ∙ append_assoc tag (form ++ count) last ∙ ap (λ x. tag ++ x) (append_assoc form count last)

  pub table_as : (m : Meaning) (d : Dir) (xs : List (ℕ × Item))
      → spelling o 2 (length xs) ++ (flat_map (entry_bytes plan o filler d) xs
      ++ next_bytes plan o filler m d) ≡ table_bytes plan o filler m d xs
  unfolding table_bytes
  table_as m d xs = refl

-- ---- padded, as in the normal form

-- a directory's table has an even number of bytes
even_table : (n : ℕ) → table_size n % 2 ≡ 0
even_table n = let e : table_size n ≡ (3 + 6 * n) * 2 = omega arith in ap (λ (k : ℕ). k % 2) e ∙ mul-mod_left (3 + 6 * n) 2

even_padded : (x : List ℕ) → length x % 2 ≡ 0 → padded x ≡ x
even_padded x e = ap (λ n. x ++ replicate n 0) e ∙ append-nil x

module _ (plan : Plan) (d : Dir) where
  pub placed_as : (xs : List (ℕ × Item)) → flat_map (placed_bytes plan) xs ≡ flat_map padded_content
      (filter_map (placed_content plan Most 0 d) xs)
  unfolding placed_content
  placed_as [] = refl
  placed_as (x ∷ xs) = ap (λ ys. placed_bytes plan x ++ ys) (placed_as xs) ∙ one x (filter_map (placed_content plan Most 0 d) xs)
    where
      one : (x : ℕ × Item) (ys : List _) → placed_bytes plan x ++ flat_map padded_content ys ≡ flat_map padded_content
          (cons_option (placed_content plan Most 0 d x) ys)
      one x ys = elim (cases_Bool (nat_lt 4 (item_size x.1))) [
        | inl t ↦ ap (λ b. b ++ flat_map padded_content ys) (cond-true (nat_lt 4 (item_size x.1)) (padded (item_bytes plan Most 0 x.1)) []
            t)
            ∙ ap (λ z. flat_map padded_content (cons_option z ys)) (sym (cond-true (nat_lt 4 (item_size x.1))
            (Some (Placed d x.0, item_bytes plan Most 0 x.1)) None t))
        | inr f ↦ ap (λ b. b ++ flat_map padded_content ys) (cond-false (nat_lt 4 (item_size x.1)) (padded (item_bytes plan Most 0 x.1)) []
            f)
            ∙ ap (λ z. flat_map padded_content (cons_option z ys)) (sym (cond-false (nat_lt 4 (item_size x.1))
            (Some (Placed d x.0, item_bytes plan Most 0 x.1)) None f))
      ]

  pub dir_as : (m : Meaning) (xs : List (ℕ × Item)) → Good d xs
      → table_bytes plan Most 0 m d xs ++ flat_map (placed_bytes plan) xs ≡ flat_map padded_content
      (contents_of_dir plan Most 0 m d (Some xs))
  dir_as m xs g = ap₂ (λ a b. a ++ b)
      (sym (even_padded (table_bytes plan Most 0 m d xs) (ap (λ n. n % 2) (length_table plan Most 0 d xs g.suit m)
      ∙ even_table (length xs))))
      (placed_as xs)

-- an item's bytes and their padding
pub item_padded : (plan : Plan) (d : Dir) (i : ℕ × Item) (n : ℕ) → Suits (role d i.0) i.1 → n ≡ item_size i.1
    → item_bytes plan Most 0 i.1 ++ replicate (n % 2) 0 ≡ padded (item_bytes plan Most 0 i.1)
item_padded plan d i n s e = ap (λ k. item_bytes plan Most 0 i.1 ++ replicate (k % 2) 0) (e ∙ sym (length_is plan Most 0 d i s))

-- a directory's table and values, if the meaning has it
abbrev pub dir_bytes : Plan → Meaning → Dir → List ℕ
dir_bytes plan m d = flat_map padded_content (contents_of_dir plan Most 0 m d (items m d))

-- all bytes after the header
pub contents_as : (plan : Plan) (m : Meaning) → flat_map padded_content
    (flat_map (λ d. contents_of_dir plan Most 0 m d (items m d)) dirs)
    ++ flat_map padded_content (thumb_contents m.thumb) ≡ flat_map padded_content (contents plan Most 0 m)
unfolding contents
contents_as plan m =
    sym (flat_map-append padded_content (flat_map (λ d. contents_of_dir plan Most 0 m d (items m d)) dirs) (thumb_contents m.thumb))

-- each part of a list's parts
pub flat_map_flat_map : {X Y Z : Type 0} (g : Y → List Z) (f : X → List Y) (xs : List X)
    → flat_map (λ x. flat_map g (f x)) xs ≡ flat_map g (flat_map f xs)
flat_map_flat_map g f [] = refl
flat_map_flat_map g f (x ∷ xs) = ap (λ y. flat_map g (f x) ++ y) (flat_map_flat_map g f xs) ∙ sym (flat_map-append g (f x) (flat_map f xs))

pub dirs_as : (plan : Plan) (m : Meaning) → flat_map (dir_bytes plan m) dirs ≡ flat_map padded_content
    (flat_map (λ d. contents_of_dir plan Most 0 m d (items m d)) dirs)
dirs_as plan m = flat_map_flat_map padded_content (λ d. contents_of_dir plan Most 0 m d (items m d)) dirs
