-- Texts and lists that are made part by part.
use Rattle.std.proofs.Common.{◌≡◌, ℕ, ◌+◌, ◌-◌, ◌*◌, ◌<◌, ◌≤◌, ◌++◌, List, [], ◌∷◌, length, take, drop, map, slice_index, slice_get, get_or}
use Rattle.std.proofs.Common.{Option, Some, option_map, ◌/◌, ◌%◌, refl, sym, ap, ◌∙◌, arith, append_assoc, length-append, take-append-drop}
use Rattle.std.specs.Prelude.{codes}
use Rattle.std.specs.List.{flat_map, filter_map}
use Rattle.std.proofs.Math.Seq.{take-add}
use Rattle.px_bytes.specs.Devices.{AppendsPrefix}
use Rattle.px_bytes.specs.Waiting.{Buffer, ◌⊕◌, Owes}
use Rattle.px_bytes.specs.lemmas.WaitingLaws.{puts_first}
use Rattle.std.proofs.lemmas.List.{take_more, flat_map_more}
use Rattle.std.proofs.lemmas.List.Elements.{filter_map-append}
use Rattle.std.proofs.lemmas.Grind.{flat_map-append}
use Rattle.std.proofs.lemmas.Option.{slice_get_within, get_or_from_slice_get, slice_get-map, slice_get-get_or}
use Rattle.hex.specs.Hex.{encode_with, encode_lower, lower_digits}
use Rattle.px_iim.specs.Group.{Group, Record}
use Rattle.px_iim.specs.Asking.{dataset_count}
use Rattle.px_text.proofs.Chains.{owes_append, owes_prefix, owes_as, prefix_as}
use Rattle.px_meaning.specs.Tree.{Fields}
use Rattle.px_text.specs.declared.labels.Label.{Label}
use Rattle.px_text.specs.Captions.{caption_bytes}
use Rattle.px_text.specs.Captions.{Labelled, labelled, group_captions, caption_groups, iim_captions, caption_line, caption_lines}
use Rattle.px_text.specs.Captions.{tag_captions, caption_texts, exif_captions}

-- ---- bytes in hexadecimal

encode_append : (t xs ys : List ℕ) → encode_with t (xs ++ ys) ≡ encode_with t xs ++ encode_with t ys
unfolding encode_with
encode_append t [] ys = refl
encode_append t (x ∷ xs) ys = ap (λ (l : List ℕ). slice_index t (x / 16) ∷ slice_index t (x % 16) ∷ l) (encode_append t xs ys)

-- the first byte, and the others
pub encode_cons : (b : ℕ) (bs : List ℕ) → encode_lower (b ∷ bs) ≡ encode_lower (b ∷ []) ++ encode_lower bs
encode_cons b bs = encode_append lower_digits (b ∷ []) bs

pub encode_none : encode_lower [] ≡ []
unfolding encode_with
encode_none = refl

-- the piece from i to e follows the first i bytes
piece_after : (xs : List ℕ) (i e : ℕ) → i ≤ e → encode_lower (take i xs) ++ encode_lower (take (e - i) (drop i xs)) ≡ encode_lower
    (take e xs)
piece_after xs i e le =
    let end : e ≡ i + (e - i) = omega (arith, le) in
    let cut : take e xs ≡ take i xs ++ take (e - i) (drop i xs) = ap (λ n. take n xs) end ∙ take-add i (e - i) xs in
    sym (ap encode_lower cut ∙ encode_append lower_digits (take i xs) (take (e - i) (drop i xs)))

-- all bytes after the first e
rest_after : (xs : List ℕ) (e : ℕ) → encode_lower (take e xs) ++ encode_lower (drop e xs) ≡ encode_lower xs
rest_after xs e = sym (encode_append lower_digits (take e xs) (drop e xs)) ∙ ap encode_lower (take-append-drop e xs)

pub hex_next : (a b c : Option (List ℕ)) (h k m : Buffer) (xs : List ℕ) (i e : ℕ) → i ≤ e → Owes a b k (h ⊕ encode_lower (take i xs))
    → Owes b c m (k ⊕ encode_lower (take (e - i) (drop i xs)))
    → Owes a c m (h ⊕ encode_lower (take e xs))
hex_next a b c h k m xs i e le p q =
    owes_as a c h m _ _ (piece_after xs i e le) (owes_append a b c h k m (encode_lower (take i xs))
    (encode_lower (take (e - i) (drop i xs))) p q)

pub hex_stop : (a b c : Option (List ℕ)) (h k : Buffer) (xs : List ℕ) (i e : ℕ) → i ≤ e → Owes a b k (h ⊕ encode_lower (take i xs))
    → AppendsPrefix b c (k.bytes ++ encode_lower (take (e - i) (drop i xs)))
    → AppendsPrefix a c (h.bytes ++ encode_lower xs)
hex_stop a b c h k xs i e le p q =
    prefix_as a c h _ _ (rest_after xs e) (puts_first a c h (encode_lower (take e xs)) (encode_lower (drop e xs))
    (prefix_as a c h _ _ (piece_after xs i e le) (owes_prefix a b c h k (encode_lower (take i xs))
    (encode_lower (take (e - i) (drop i xs))) p
    q)))

-- ---- the parts of a list's elements

-- the element that a loop over a list reads
pub read_at : {X Y : Type 0} (v : X → Y) (xs : List X) (i : ℕ) (d : X) → i < length xs → slice_get (map v xs) i ≡ Some (v (get_or xs i d))
read_at v xs i d h = slice_get-map v xs i ∙ ap (option_map v) (slice_get-get_or xs i d h)

one_more : {X : Type 0} (xs : List X) (i : ℕ) (x : X) → slice_get xs i ≡ Some x → take (i + 1) xs ≡ take i xs ++ x ∷ []
one_more xs i x read = take_more xs i x (slice_get_within xs i x read) ∙ ap (λ y. take i xs ++ y ∷ []) (get_or_from_slice_get xs i x x read)

module _ {X A : Type 0} (xs : List X) (i : ℕ) (x : X) (read : slice_get xs i ≡ Some x) where
  -- the part of the element at i follows those before it
  pub parts_more : (f : X → List A) (old now new : List A) → now ≡ old ++ flat_map f (take i xs) → new ≡ now ++ f x
      → new ≡ old ++ flat_map f (take (i + 1) xs)
  parts_more f old now new e h =
      let more : flat_map f (take (i + 1) xs) ≡ flat_map f (take i xs) ++ f x =
      ap (flat_map f) (one_more xs i x read) ∙ sym (flat_map_more f [] (take i xs) x) in
      h ∙ ap (λ (l : List A). l ++ f x) e ∙ append_assoc old (flat_map f (take i xs)) (f x) ∙ ap (λ (l : List A). old ++ l) (sym more)

  -- so much is requested for the elements up to it
  pub asked_more : (f : X → List A) (old now new : ℕ) → now ≤ old + caption_bytes * length (flat_map f (take i xs))
      → new ≤ now + caption_bytes * length (f x) → new ≤ old + caption_bytes * length (flat_map f (take (i + 1) xs))
  asked_more f old now new h k =
      let so_far = flat_map f (take i xs) in
      let more = ap length (parts_more f [] so_far (so_far ++ f x) refl refl) in
      omega (arith, h, k, more, length-append so_far (f x))

  -- its output, if any, follows that of the elements before
  pub given_more : (f : X → Option A) (old now new : List A) → now ≡ old ++ filter_map f (take i xs) → new ≡ now ++ filter_map f (x ∷ [])
      → new ≡ old ++ filter_map f (take (i + 1) xs)
  given_more f old now new e h =
      let more : filter_map f (take (i + 1) xs) ≡ filter_map f (take i xs) ++ filter_map f (x ∷ []) =
      ap (filter_map f) (one_more xs i x read) ∙ filter_map-append f (take i xs) (x ∷ []) in
      h ∙ ap (λ (l : List A). l ++ filter_map f (x ∷ [])) e ∙ append_assoc old (filter_map f (take i xs)) (filter_map f (x ∷ []))
      ∙ ap (λ (l : List A). old ++ l) (sym more)

  pub asked_given : (f : X → Option A) (old now new : ℕ) → now ≤ old + caption_bytes * length (filter_map f (take i xs))
      → new ≤ now + caption_bytes * length (filter_map f (x ∷ [])) → new ≤ old + caption_bytes * length (filter_map f (take (i + 1) xs))
  asked_given f old now new h k =
      let so_far = filter_map f (take i xs) in
      let more = ap length (given_more f [] so_far (so_far ++ filter_map f (x ∷ [])) refl refl) in
      omega (arith, h, k, more, length-append so_far (filter_map f (x ∷ [])))

-- the parts of the first elements are no longer than those of all
pub length_parts : {X A : Type 0} (f : X → List A) (xs : List X) (n : ℕ) → length (flat_map f (take n xs)) ≤ length (flat_map f xs)
length_parts f xs n =
    let whole = ap length (sym (flat_map-append f (take n xs) (drop n xs)) ∙ ap (flat_map f) (take-append-drop n xs)) in
    omega (arith, whole, length-append (flat_map f (take n xs)) (flat_map f (drop n xs)))

pub length_given : {X A : Type 0} (f : X → Option A) (xs : List X) (n : ℕ) → length (filter_map f (take n xs)) ≤ length (filter_map f xs)
length_given f xs n =
    let whole = ap length (sym (filter_map-append f (take n xs) (drop n xs)) ∙ ap (filter_map f) (take-append-drop n xs)) in
    omega (arith, whole, length-append (filter_map f (take n xs)) (filter_map f (drop n xs)))

-- the text before a field's elements: the tag, the type between two spaces, and the count
pub head_whole : (tag word n : List ℕ) → tag ++ (codes " " ++ word ++ codes " ") ++ (n ++ codes ":") ≡ tag ++ codes " " ++ word ++ codes " "
    ++ n ++ codes ":"
head_whole tag word n =
    let middle = codes " " ++ word ++ codes " " in
    let apart : tag ++ middle ≡ tag ++ codes " " ++ word ++ codes " " =
    sym (append_assoc tag (codes " " ++ word) (codes " "))
    ∙ ap (λ (l : List ℕ). l ++ codes " ") (sym (append_assoc tag (codes " ") word)) in
    sym (append_assoc (tag ++ middle) n (codes ":")) ∙ ap (λ (l : List ℕ). l ++ n ++ codes ":") apart

-- ---- the number of DataSets

-- the DataSets of the next group
pub count_next : (i left : Record) (g : Group) → i ≡ g ∷ left → (n count all : ℕ) → count + dataset_count i ≡ all → n ≡ length g.items
    → count + n + dataset_count left ≡ all
count_next i left g step n count all e h =
    let f : Group → List (ℕ × List ℕ) = λ y. y.items in
    omega (arith, e, h, ap dataset_count step, length-append g.items (flat_map f left))

-- ---- the lines of captions

lines_append : (xs ys : List Labelled) → caption_lines (xs ++ ys) ≡ caption_lines xs ++ caption_lines ys
lines_append xs ys = flat_map-append caption_line xs ys

-- the lines of a DataSet, if any
abbrev pub item_lines : ℕ × List ℕ → List ℕ
item_lines x = caption_lines (filter_map labelled (x ∷ []))

pub lines_items : (xs : List (ℕ × List ℕ)) → flat_map item_lines xs ≡ caption_lines (filter_map labelled xs)
lines_items [] = refl
lines_items (x ∷ xs) =
    ap (λ (l : List ℕ). item_lines x ++ l) (lines_items xs) ∙ sym (lines_append (filter_map labelled (x ∷ [])) (filter_map labelled xs))
    ∙ ap caption_lines (sym (filter_map-append labelled (x ∷ []) xs))

-- part by part, or all at once
lines_each : {X : Type 0} (f : X → List Labelled) (xs : List X) → flat_map (λ (x : X). caption_lines (f x)) xs
    ≡ caption_lines (flat_map f xs)
lines_each f [] = refl
lines_each f (x ∷ xs) = ap (λ (l : List ℕ). caption_lines (f x) ++ l) (lines_each f xs) ∙ sym (lines_append (f x) (flat_map f xs))

pub group_lines_whole : (i : Record) → flat_map (λ (n : ℕ). caption_lines (group_captions i n)) caption_groups ≡ caption_lines
    (iim_captions i)
unfolding iim_captions
group_lines_whole i = lines_each (group_captions i) caption_groups

pub text_lines_whole : (fs : Fields) → flat_map (λ (t : ℕ × Label). caption_lines (tag_captions fs t)) caption_texts ≡ caption_lines
    (exif_captions fs)
unfolding exif_captions
text_lines_whole fs = lines_each (tag_captions fs) caption_texts
