-- The offsets of the chunks of a normal form, part by part.
use Rattle.std.proofs.Common.{◌≡◌, ℕ, zero, suc, ◌+◌, ◌<◌, ◌==◌, ◌&&◌, nat_lt, Bool, true, false, Option, Some, None, List, [], ◌∷◌, ◌++◌}
use Rattle.std.proofs.Common.{map, filter_map, flat_map, take, drop, length, slice_get, unwrap_or, if◌then◌else◌, refl, sym, ◌∙◌, ap, subst}
use Rattle.std.proofs.Common.{arith, lt-ltb}
use Rattle.std.specs.List.{AllByRecursion, cons_option}
use Rattle.std.proofs.lemmas.Bool.{cond-true, cond-false, cond_both}
use Rattle.px_bytes.specs.lemmas.EachLaws.{each_append}
use Rattle.px_meaning.specs.declared.Dir.{Dir}
use Rattle.px_meaning.specs.declared.Dir.TheVariants.{Main, Exif, Interop, Gps, Thumb}
use Rattle.px_meaning.specs.Tree.{Meaning, Thumbnail}
use Rattle.px_meaning.specs.Entry.{Rising, table_size}
use Rattle.px_meaning.specs.Directory.{dirs}
use Rattle.px_meaning.specs.Roles.{dir_number}
use Rattle.px_meaning.specs.Writable.{Item, item_size, items}
use Rattle.px_layout.specs.declared.chunks.Chunk.{Chunk}
use Rattle.px_layout.specs.declared.chunks.Chunk.TheVariants.{Table, Placed, Jpeg, Strip}
use Rattle.px_layout.specs.Chunks.{same_chunk, placed_chunk, chunks_of_dir, jpeg_chunks, strip_chunks, all_strip_chunks, thumb_chunks}
use Rattle.px_layout.specs.Chunks.{chunks}
use Rattle.px_layout.specs.Plans.{place}
use Rattle.px_layout.specs.Normal.{even, running, padded_size, normal_plan}
use Rattle.px_layout.specs.lemmas.LineLaws.{same_chunk_self, other_chunk}

-- ---- lists of chunks

-- no chunk of the list is that one
abbrev pub Without : Chunk → List (Chunk × ℕ) → Type 0
Without c cs = AllByRecursion (λ y. same_chunk y.0 c ≡ false) cs

pub run_none : (x : ℕ) (cs : List (Chunk × ℕ)) (c : Chunk) → Without c cs → running x cs c ≡ None
run_none x [] c h = refl
run_none x (y ∷ ys) c h = cond-false (same_chunk y.0 c) (Some x) (running (x + even y.1) ys c) h.0 ∙ run_none (x + even y.1) ys c h.1

-- after a list without it
pub run_after : (x : ℕ) (xs ys : List (Chunk × ℕ)) (c : Chunk) → Without c xs → running x (xs ++ ys) c ≡ running (x + padded_size xs) ys c
run_after x [] ys c h = ap (λ n. running n ys c) (omega arith)
run_after x (y ∷ xs) ys c h = cond-false (same_chunk y.0 c) (Some x) (running (x + even y.1) (xs ++ ys) c) h.0
    ∙ run_after (x + even y.1) xs ys c h.1 ∙ ap (λ n. running n ys c) (omega arith)

-- before a list that has it not
pub run_before : (x : ℕ) (xs ys : List (Chunk × ℕ)) (c : Chunk) → Without c ys → running x (xs ++ ys) c ≡ running x xs c
run_before x [] ys c h = run_none x ys c h
run_before x (y ∷ xs) ys c h = ap (λ (o : Option ℕ). if same_chunk y.0 c then Some x else o) (run_before (x + even y.1) xs ys c h)

pub padded_append : (xs ys : List (Chunk × ℕ)) → padded_size (xs ++ ys) ≡ padded_size xs + padded_size ys
padded_append [] ys = omega arith
padded_append (x ∷ xs) ys = let e = padded_append xs ys in omega arith

-- ---- which chunks a part has not

pub without_dir : (c : Chunk) (e : Dir) → same_chunk (Table e) c ≡ false → ((u : ℕ) → same_chunk (Placed e u) c ≡ false)
    → (y : Option (List (ℕ × Item))) → Without c (chunks_of_dir e y)
unfolding placed_chunk
without_dir c e h k None = tt
without_dir c e h k (Some xs) = (h, go xs)
  where
    go : (xs : List (ℕ × Item)) → Without c (filter_map (placed_chunk e) xs)
    go [] = tt
    go (i ∷ xs) =
        cond_both (nat_lt 4 (item_size i.1)) (Some (Placed e i.0, item_size i.1)) None
        (λ o. Without c (cons_option o (filter_map (placed_chunk e) xs))) (λ _. (k i.0, go xs)) (λ _. go xs)

without_strips : (c : Chunk) → ((i : ℕ) → same_chunk (Strip i) c ≡ false) → (n : ℕ) (s : List (List ℕ)) → Without c (strip_chunks n s)
without_strips c k n [] = tt
without_strips c k n (x ∷ s) = (k n, without_strips c k (n + 1) s)

pub without_all_strips : (c : Chunk) → ((i : ℕ) → same_chunk (Strip i) c ≡ false) → (s : Option (List (List ℕ)))
    → Without c (all_strip_chunks s)
without_all_strips c k None = tt
without_all_strips c k (Some s) = without_strips c k 0 s

pub without_jpeg : (c : Chunk) → same_chunk Jpeg c ≡ false → (j : Option (List ℕ)) → Without c (jpeg_chunks j)
without_jpeg c h None = tt
without_jpeg c h (Some x) = (h, tt)

pub without_thumb : (c : Chunk) → same_chunk Jpeg c ≡ false → ((i : ℕ) → same_chunk (Strip i) c ≡ false) → (t : Option Thumbnail)
    → Without c (thumb_chunks t)
unfolding thumb_chunks
without_thumb c h k None = tt
without_thumb c h k (Some t) =
    each_append (λ (y : Chunk × ℕ). same_chunk y.0 c ≡ false) (jpeg_chunks t.jpeg) (all_strip_chunks t.strips) (without_jpeg c h t.jpeg)
    (without_all_strips c k t.strips)

-- a chunk that no other directory has, and that the thumbnail's bytes are not
pub record IsOf (d : Dir) (c : Chunk) : Type 0 where
  pub table : (e : Dir) → (dir_number e == dir_number d) ≡ false → same_chunk (Table e) c ≡ false
  pub value : (e : Dir) → (dir_number e == dir_number d) ≡ false → (u : ℕ) → same_chunk (Placed e u) c ≡ false
  pub jpeg : same_chunk Jpeg c ≡ false
  pub strip : (i : ℕ) → same_chunk (Strip i) c ≡ false

pub table_of : (d : Dir) → IsOf d (Table d)
table_of d = record { table = λ e o. o; value = λ e o u. refl; jpeg = refl; strip = λ i. refl }

pub value_of : (d : Dir) (t : ℕ) → IsOf d (Placed d t)
value_of d t = record { table = λ e o. refl; value = λ e o u. ap (λ (b : Bool). b && (u == t)) o; jpeg = refl; strip = λ i. refl }

-- ---- the offsets of the parts

abbrev pub dir_line : Meaning → Dir → List (Chunk × ℕ)
dir_line m d = chunks_of_dir d (items m d)

abbrev pub dir_end : ℕ → Meaning → Dir → ℕ
dir_end x m d = x + padded_size (dir_line m d)

-- the offset of a directory: after the header and the directories before it
abbrev pub start : Meaning → Dir → ℕ
start m Main = 8
start m Exif = dir_end 8 m Main
start m Interop = dir_end (dir_end 8 m Main) m Exif
start m Gps = dir_end (dir_end (dir_end 8 m Main) m Exif) m Interop
start m Thumb = dir_end (dir_end (dir_end (dir_end 8 m Main) m Exif) m Interop) m Gps

-- the offset of the thumbnail's bytes
abbrev pub thumb_start : Meaning → ℕ
thumb_start m = dir_end (start m Thumb) m Thumb

module _ (m : Meaning) where
  abbrev lines : List Dir → List (Chunk × ℕ)
  lines ds = flat_map (λ d. chunks_of_dir d (items m d)) ds

  module _ (d : Dir) (c : Chunk) (h : IsOf d c) where
    other : (e : Dir) → (dir_number e == dir_number d) ≡ false → Without c (dir_line m e)
    other e o = without_dir c e (h.table e o) (h.value e o) (items m e)

    others : (ds : List Dir) → AllByRecursion (λ e. (dir_number e == dir_number d) ≡ false) ds → Without c (lines ds)
    others [] o = tt
    others (e ∷ ds) o = each_append (λ (y : Chunk × ℕ). same_chunk y.0 c ≡ false) (dir_line m e) (lines ds) (other e o.0) (others ds o.1)

    in_dirs : running 8 (chunks m) c ≡ running 8 (lines dirs) c
    unfolding chunks
    in_dirs = run_before 8 (lines dirs) (thumb_chunks m.thumb) c (without_thumb c h.jpeg h.strip m.thumb)

  -- a directory's chunk is at the offset that its directory has for it
  in_dir : (d : Dir) (c : Chunk) → IsOf d c → running 8 (lines dirs) c ≡ running (start m d) (dir_line m d) c
  in_dir Main c h =
      run_before 8 (dir_line m Main) (lines (Exif ∷ Interop ∷ Gps ∷ Thumb ∷ [])) c
      (others Main c h (Exif ∷ Interop ∷ Gps ∷ Thumb ∷ []) (refl, (refl, (refl, (refl, tt)))))
  in_dir Exif c h =
      run_after 8 (dir_line m Main) (lines (Exif ∷ Interop ∷ Gps ∷ Thumb ∷ [])) c (other Exif c h Main refl)
      ∙ run_before (start m Exif) (dir_line m Exif) (lines (Interop ∷ Gps ∷ Thumb ∷ [])) c
      (others Exif c h (Interop ∷ Gps ∷ Thumb ∷ []) (refl, (refl, (refl, tt))))
  in_dir Interop c h =
      run_after 8 (dir_line m Main) (lines (Exif ∷ Interop ∷ Gps ∷ Thumb ∷ [])) c (other Interop c h Main refl)
      ∙ run_after (start m Exif) (dir_line m Exif) (lines (Interop ∷ Gps ∷ Thumb ∷ [])) c (other Interop c h Exif refl)
      ∙ run_before (start m Interop) (dir_line m Interop) (lines (Gps ∷ Thumb ∷ [])) c
      (others Interop c h (Gps ∷ Thumb ∷ []) (refl, (refl, tt)))
  in_dir Gps c h =
      run_after 8 (dir_line m Main) (lines (Exif ∷ Interop ∷ Gps ∷ Thumb ∷ [])) c (other Gps c h Main refl)
      ∙ run_after (start m Exif) (dir_line m Exif) (lines (Interop ∷ Gps ∷ Thumb ∷ [])) c (other Gps c h Exif refl)
      ∙ run_after (start m Interop) (dir_line m Interop) (lines (Gps ∷ Thumb ∷ [])) c (other Gps c h Interop refl)
      ∙ run_before (start m Gps) (dir_line m Gps) (lines (Thumb ∷ [])) c (others Gps c h (Thumb ∷ []) (refl, tt))
  in_dir Thumb c h =
      run_after 8 (dir_line m Main) (lines (Exif ∷ Interop ∷ Gps ∷ Thumb ∷ [])) c (other Thumb c h Main refl)
      ∙ run_after (start m Exif) (dir_line m Exif) (lines (Interop ∷ Gps ∷ Thumb ∷ [])) c (other Thumb c h Exif refl)
      ∙ run_after (start m Interop) (dir_line m Interop) (lines (Gps ∷ Thumb ∷ [])) c (other Thumb c h Interop refl)
      ∙ run_after (start m Gps) (dir_line m Gps) (lines (Thumb ∷ [])) c (other Thumb c h Gps refl)
      ∙ run_before (start m Thumb) (dir_line m Thumb) [] c tt

  pub dir_found : (d : Dir) (c : Chunk) → IsOf d c → running 8 (chunks m) c ≡ running (start m d) (dir_line m d) c
  dir_found d c h = in_dirs d c h ∙ in_dir d c h

  lines_end : 8 + padded_size (lines dirs) ≡ thumb_start m
  lines_end =
      let a = padded_append (dir_line m Main) (lines (Exif ∷ Interop ∷ Gps ∷ Thumb ∷ [])) in
      let b = padded_append (dir_line m Exif) (lines (Interop ∷ Gps ∷ Thumb ∷ [])) in
      let c = padded_append (dir_line m Interop) (lines (Gps ∷ Thumb ∷ [])) in
      let e = padded_append (dir_line m Gps) (lines (Thumb ∷ [])) in
      let f = padded_append (dir_line m Thumb) [] in
      omega arith

  -- the end of the form
  pub all_end : 8 + padded_size (chunks m) ≡ thumb_start m + padded_size (thumb_chunks m.thumb)
  unfolding chunks
  all_end = let a = padded_append (lines dirs) (thumb_chunks m.thumb) in let b = lines_end in omega arith

  no_dirs : (c : Chunk) → ((e : Dir) → same_chunk (Table e) c ≡ false) → ((e : Dir) (u : ℕ) → same_chunk (Placed e u) c ≡ false)
      → (ds : List Dir) → Without c (lines ds)
  no_dirs c h k [] = tt
  no_dirs c h k (e ∷ ds) =
      each_append (λ (y : Chunk × ℕ). same_chunk y.0 c ≡ false) (dir_line m e) (lines ds) (without_dir c e (h e) (k e) (items m e))
      (no_dirs c h k ds)

  -- the thumbnail's bytes follow all directories
  pub thumb_found : (c : Chunk) → ((e : Dir) → same_chunk (Table e) c ≡ false) → ((e : Dir) (u : ℕ) → same_chunk (Placed e u) c ≡ false)
      → running 8 (chunks m) c ≡ running (thumb_start m) (thumb_chunks m.thumb) c
  unfolding chunks
  thumb_found c h k =
      run_after 8 (lines dirs) (thumb_chunks m.thumb) c (no_dirs c h k dirs) ∙ ap (λ n. running n (thumb_chunks m.thumb) c) lines_end

-- ---- the values of a directory

-- the bytes of a value that has an offset, none for one in its entry
abbrev pub value_size : Item → ℕ
value_size x = if nat_lt 4 (item_size x) then even (item_size x) else 0

abbrev pub values_size : List (ℕ × Item) → ℕ
values_size [] = 0
values_size (x ∷ xs) = value_size x.1 + values_size xs

pub values_padded : (d : Dir) (xs : List (ℕ × Item)) → padded_size (filter_map (placed_chunk d) xs) ≡ values_size xs
unfolding placed_chunk
values_padded d [] = refl
values_padded d (x ∷ xs) =
    let rest : List (Chunk × ℕ) = filter_map (placed_chunk d) xs in
    let s : ℕ = item_size x.1 in
    let e : padded_size rest ≡ values_size xs = values_padded d xs in
    elim (nat_lt 4 s) as (λ t. padded_size (cons_option (if t then Some (Placed d x.0, s) else None) rest) ≡ (if t then even s else
    0) + values_size xs) [
      | true ↦ omega arith
      | false ↦ omega arith
    ]

pub values_split : (xs : List (ℕ × Item)) (i : ℕ) → values_size (take i xs) + values_size (drop i xs) ≡ values_size xs
values_split [] zero = refl
values_split [] (suc i) = refl
values_split (x ∷ xs) zero = omega arith
values_split (x ∷ xs) (suc i) = let e = values_split xs i in omega arith

-- a property of each tag is one of the tag that is read
tag_at : (P : ℕ → Type 0) (xs : List (ℕ × Item)) (i : ℕ) (x : ℕ × Item) → AllByRecursion P (map (λ i. i.0) xs) → slice_get xs i ≡ Some x
    → P x.0
tag_at P [] i x h e = cc
tag_at P (y ∷ xs) zero x h e = let q : y ≡ x = cc in subst (λ (z : ℕ × Item). P z.0) q h.0
tag_at P (y ∷ xs) (suc i) x h e = tag_at P xs i x h.1 e

-- an entry's value follows the values of the entries before it
value_after : (d : Dir) (b : ℕ) (xs : List (ℕ × Item)) (i : ℕ) (x : ℕ × Item) → Rising (map (λ i. i.0) xs) → slice_get xs i ≡ Some x
    → 4 < item_size x.1 →
    running b (filter_map (placed_chunk d) xs) (Placed d x.0) ≡ Some (b + padded_size (filter_map (placed_chunk d) (take i xs)))
unfolding placed_chunk
value_after d b [] i x r e l = cc
value_after d b (y ∷ xs) zero x r e l =
    let q : x ≡ y = cc in
    let rest : List (Chunk × ℕ) = filter_map (placed_chunk d) xs in
    subst (λ (z : ℕ × Item). running b (filter_map (placed_chunk d) (y ∷ xs)) (Placed d z.0) ≡ Some (b + 0)) (sym q)
    (ap (λ (o : Option (Chunk × ℕ)). running b (cons_option o rest) (Placed d y.0))
    (cond-true (nat_lt 4 (item_size y.1)) (Some (Placed d y.0, item_size y.1)) None
    (lt-ltb 4 (item_size y.1) (let s = ap (λ (z : ℕ × Item). item_size z.1) q in omega arith)))
    ∙ cond-true (same_chunk (Placed d y.0) (Placed d y.0)) (Some b) (running (b + even (item_size y.1)) rest (Placed d y.0))
    (same_chunk_self (Placed d y.0))
    ∙ ap (λ (n : ℕ). Some n) (omega arith))
value_after d b (y ∷ xs) (suc i) x r e l =
    let rest : List (Chunk × ℕ) = filter_map (placed_chunk d) xs in
    let before : List (Chunk × ℕ) = filter_map (placed_chunk d) (take i xs) in
    let k : y.0 < x.0 = tag_at (λ u. y.0 < u) xs i x r.0 e in
    cond_both (nat_lt 4 (item_size y.1)) (Some (Placed d y.0, item_size y.1)) None
    (λ o. running b (cons_option o rest) (Placed d x.0) ≡ Some (b + padded_size (cons_option o before)))
    (λ _. cond-false (same_chunk (Placed d y.0) (Placed d x.0)) (Some b) (running (b + even (item_size y.1)) rest (Placed d x.0))
    (other_chunk (Placed d y.0) (Placed d x.0) (omega arith))
    ∙ value_after d (b + even (item_size y.1)) xs i x r.1 e l ∙ ap (λ (n : ℕ). Some n) (omega arith))
    (λ _. value_after d b xs i x r.1 e l)

-- the same, by the size of the values from that entry on
pub value_at : (d : Dir) (b at : ℕ) (xs : List (ℕ × Item)) (i : ℕ) (x : ℕ × Item) → Rising (map (λ i. i.0) xs) → slice_get xs i ≡ Some x
    → 4 < item_size x.1 →
    at + values_size (drop i xs) ≡ b + values_size xs → running b (filter_map (placed_chunk d) xs) (Placed d x.0) ≡ Some at
value_at d b at xs i x r e l h =
    let s = values_split xs i in
    let p = values_padded d (take i xs) in
    value_after d b xs i x r e l ∙ ap (λ (n : ℕ). Some n) (omega arith)

-- ---- the strips

pub strip_at : (b n i : ℕ) (s : List (List ℕ)) → i < length s
    → running b (strip_chunks n s) (Strip (n + i)) ≡ Some (b + padded_size (strip_chunks n (take i s)))
strip_at b n i [] l = absurd (omega arith)
strip_at b n zero (x ∷ s) l =
    cond-true (n == n + 0) (Some b) (running (b + even (length x)) (strip_chunks (n + 1) s) (Strip (n + 0)))
    (subst (λ (k : ℕ). (n == k) ≡ true) (omega arith) (same_chunk_self (Strip n)))
    ∙ ap (λ (k : ℕ). Some k) (omega arith)
strip_at b n (suc i) (x ∷ s) l =
    let e : n + suc i ≡ n + 1 + i = omega arith in
    cond-false (n == n + suc i) (Some b) (running (b + even (length x)) (strip_chunks (n + 1) s) (Strip (n + suc i)))
    (other_chunk (Strip n) (Strip (n + suc i)) (omega arith))
    ∙ ap (λ (k : ℕ). running (b + even (length x)) (strip_chunks (n + 1) s) (Strip k)) e
    ∙ strip_at (b + even (length x)) (n + 1) i s (omega arith)
    ∙ ap (λ (k : ℕ). Some k) (omega arith)

-- ---- the thumbnail's bytes

abbrev pub jpeg_part : Option Thumbnail → List (Chunk × ℕ)
jpeg_part None = []
jpeg_part (Some t) = jpeg_chunks t.jpeg

abbrev pub strips_part : Option Thumbnail → List (Chunk × ℕ)
strips_part None = []
strips_part (Some t) = all_strip_chunks t.strips

pub thumb_parts : (t : Option Thumbnail) → thumb_chunks t ≡ jpeg_part t ++ strips_part t
unfolding thumb_chunks
thumb_parts None = refl
thumb_parts (Some t) = refl

abbrev pub strips_start : Meaning → ℕ
strips_start m = thumb_start m + padded_size (jpeg_part m.thumb)

-- the end of the form
pub strips_end : (m : Meaning) → 8 + padded_size (chunks m) ≡ strips_start m + padded_size (strips_part m.thumb)
strips_end m =
    let a = all_end m in
    let p = ap padded_size (thumb_parts m.thumb) in
    let q = padded_append (jpeg_part m.thumb) (strips_part m.thumb) in
    omega arith

-- ---- offsets in the normal form's plan

-- a table is at the offset of its directory
pub table_place : (m : Meaning) (d : Dir) (xs : List (ℕ × Item)) → items m d ≡ Some xs → place (normal_plan m) (Table d) ≡ start m d
unfolding normal_plan
table_place m d xs e =
    ap (λ o. unwrap_or o 0) (dir_found m d (Table d) (table_of d)
    ∙ ap (λ y. running (start m d) (chunks_of_dir d y) (Table d)) e
    ∙ cond-true (same_chunk (Table d) (Table d)) (Some (start m d)) (running (start m d + even (table_size (length xs)))
    (filter_map (placed_chunk d) xs) (Table d)) (same_chunk_self (Table d)))

-- the table of a missing directory has no offset
pub no_table_place : (m : Meaning) (d : Dir) → items m d ≡ None → place (normal_plan m) (Table d) ≡ 0
unfolding normal_plan
no_table_place m d e =
    ap (λ o. unwrap_or o 0) (dir_found m d (Table d) (table_of d) ∙ ap (λ y. running (start m d) (chunks_of_dir d y) (Table d)) e)

-- a value follows its table and the values of the entries before it
pub value_place : (m : Meaning) (d : Dir) (xs : List (ℕ × Item)) (i at : ℕ) (x : ℕ × Item) → items m d ≡ Some xs
    → Rising (map (λ i. i.0) xs) → slice_get xs i ≡ Some x → 4 < item_size x.1 →
    at + values_size (drop i xs) ≡ start m d + even (table_size (length xs)) + values_size xs → place (normal_plan m) (Placed d x.0) ≡ at
unfolding normal_plan
value_place m d xs i at x e r g l h =
    ap (λ o. unwrap_or o 0) (dir_found m d (Placed d x.0) (value_of d x.0)
    ∙ ap (λ y. running (start m d) (chunks_of_dir d y) (Placed d x.0)) e
    ∙ value_at d (start m d + even (table_size (length xs))) at xs i x r g l h)

-- the JPEG follows all directories
pub jpeg_place : (m : Meaning) (t : Thumbnail) (x : List ℕ) → m.thumb ≡ Some t → t.jpeg ≡ Some x
    → place (normal_plan m) Jpeg ≡ thumb_start m
unfolding normal_plan
jpeg_place m t x e f =
    ap (λ o. unwrap_or o 0) (thumb_found m Jpeg (λ d. refl) (λ d u. refl)
    ∙ ap (λ y. running (thumb_start m) y Jpeg) (thumb_parts m.thumb ∙ ap (λ y. jpeg_part y ++ strips_part y) e
    ∙ ap (λ y. jpeg_chunks y ++ all_strip_chunks t.strips) f))

-- a strip follows the JPEG and the strips before it
pub strip_place : (m : Meaning) (t : Thumbnail) (s : List (List ℕ)) (i : ℕ) → m.thumb ≡ Some t → t.strips ≡ Some s → i < length s
    → place (normal_plan m) (Strip i) ≡ strips_start m + padded_size (strip_chunks 0 (take i s))
unfolding normal_plan
strip_place m t s i e f l =
    let k : i ≡ 0 + i = omega arith in
    ap (λ o. unwrap_or o 0) (thumb_found m (Strip i) (λ d. refl) (λ d u. refl)
    ∙ ap (λ y. running (thumb_start m) y (Strip i)) (thumb_parts m.thumb)
    ∙ run_after (thumb_start m) (jpeg_part m.thumb) (strips_part m.thumb) (Strip i) (go m.thumb)
    ∙ ap (λ y. running (strips_start m) y (Strip i)) (ap strips_part e ∙ ap all_strip_chunks f)
    ∙ ap (λ (j : ℕ). running (strips_start m) (strip_chunks 0 s) (Strip j)) k
    ∙ strip_at (strips_start m) 0 i s l)
  where
    go : (t : Option Thumbnail) → Without (Strip i) (jpeg_part t)
    go None = tt
    go (Some t) = without_jpeg (Strip i) refl t.jpeg
