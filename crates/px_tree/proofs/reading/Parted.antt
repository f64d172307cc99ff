-- The entries that name the thumbnail's bytes, and what is asked of them.
use Rattle.std.proofs.Common.{◌≡◌, ℕ, ◌+◌, ◌==◌, Bool, true, false, if◌then◌else◌, Option, Some, None, is_some, option_map, option_to_list}
use Rattle.std.proofs.Common.{List, [], ◌∷◌, ◌++◌, refl, sym, ap, ap₂, ◌∙◌, subst, eqb-true}
use Rattle.px_bytes.specs.declared.Order.{Order}
use Rattle.px_bytes.specs.declared.Refusal.{Refusal}
use Rattle.px_bytes.specs.declared.Cause.{Cause}
use Rattle.px_bytes.specs.declared.Cause.TheVariants.{ThumbnailPair}
use Rattle.px_bytes.specs.Range.{Range, range}
use Rattle.px_bytes.specs.Checks.{Check, check, first_false, Refuses}
use Rattle.px_bytes.specs.lemmas.CheckLaws.{Refuses_more, Refuses_after, Refuses_same, all_true}
use Rattle.px_tree.specs.declared.links.Found.{Found}
use Rattle.px_tree.specs.declared.uses.Uses.{Uses}
use Rattle.px_meaning.specs.Roles.{jpeg_offset_tag, jpeg_length_tag, strip_offsets_tag, strip_lengths_tag}
use Rattle.px_meaning.specs.Entry.{Entry, offset}
use Rattle.px_meaning.specs.Directory.{entries_at, entry_with}
use Rattle.px_meaning.specs.Thumbnail.{both, are_paired, numbers, ranges_of, jpeg_range, strip_ranges}
use Rattle.px_meaning.specs.Footprint.{listed}
use Rattle.px_tree.specs.Checks.{place_with, same_count, pair_checks, end_checks, range_checks, thumb_checks}
use Rattle.px_tree.specs.calls.Uses.{AreUses}
use Rattle.px_tree.specs.calls.Parts.{Finds, HaveSameCount, entry_here, place_in, pair_check, count_check, pairs_checks, jpeg_of, strips_of}

-- the first of two faults
abbrev or_else : Option (Cause × ℕ) → Option (Cause × ℕ) → Option (Cause × ℕ)
or_else None y = y
or_else (Some f) y = Some f

first_append : (xs ys : List Check) → first_false (xs ++ ys) ≡ or_else (first_false xs) (first_false ys)
first_append [] ys = refl
first_append (c ∷ xs) ys =
    elim c.holds as (λ t. (if t then first_false (xs ++ ys) else Some (c.cause, c.place)) ≡ or_else
    (if t then first_false xs else Some (c.cause, c.place)) (first_false ys)) [
      | true ↦ first_append xs ys
      | false ↦ refl
    ]

-- lists with the same first fault have it joined too
first_false_joined : (xs ys us vs : List Check) → first_false xs ≡ first_false us → first_false ys ≡ first_false vs
    → first_false (xs ++ ys) ≡ first_false (us ++ vs)
first_false_joined xs ys us vs h k = first_append xs ys ∙ ap₂ (λ (x y : Option (Cause × ℕ)). or_else x y) h k ∙ sym (first_append us vs)

module _ (b : List ℕ) (o : Order) (a : ℕ) where
  abbrev es : List Entry
  es = entries_at b o a

  entry_of : (t : ℕ) (x : Option Found) → Finds b o a t x → entry_with t es ≡ option_map (entry_here b o) x
  entry_of t None h = h
  entry_of t (Some f) h = h.is

  -- ---- pairs

  abbrev pair_at : ℕ → ℕ → Option Entry → Option Entry → List Check
  pair_at t u x y = check ThumbnailPair (if is_some x then place_with t (a + 2) es else place_with u (a + 2) es) (are_paired x y) ∷ []

  pair-same : (t u : ℕ) (x y : Option Found) → Finds b o a t x → Finds b o a u y
      → first_false (pair_check x y) ≡ first_false (pair_at t u (option_map (entry_here b o) x) (option_map (entry_here b o) y))
  pair-same t u (Some f) (Some g) h k = refl
  pair-same t u (Some f) None h k = ap (λ (p : ℕ). Some (ThumbnailPair, p)) h.place
  pair-same t u None (Some g) h k = ap (λ (p : ℕ). Some (ThumbnailPair, p)) k.place
  pair-same t u None None h k = refl

  pair-is : (t u : ℕ) (x y : Option Found) → Finds b o a t x → Finds b o a u y
      → first_false (pair_check x y) ≡ first_false (pair_at t u (entry_with t es) (entry_with u es))
  pair-is t u x y h k =
      pair-same t u x y h k ∙ ap₂ (λ (v w : Option Entry). first_false (pair_at t u v w)) (sym (entry_of t x h)) (sym (entry_of u y k))

  abbrev count_at : ℕ → Option Entry → Option Entry → List Check
  count_at t x y = check ThumbnailPair (place_with t (a + 2) es) (same_count x y) ∷ []

  count-same : (t u : ℕ) (x y : Option Found) → Finds b o a t x → Finds b o a u y
      → first_false (count_check x y) ≡ first_false (count_at t (option_map (entry_here b o) x) (option_map (entry_here b o) y))
  count-same t u (Some f) (Some g) h k =
      ap₂ (λ (p : ℕ) (q : Bool). first_false (check ThumbnailPair p q ∷ [])) h.place (ap₂ (λ (n m : ℕ). n == m) h.shown.count k.shown.count)
  count-same t u (Some f) None h k = refl
  count-same t u None (Some g) h k = refl
  count-same t u None None h k = refl

  count-is : (t u : ℕ) (x y : Option Found) → Finds b o a t x → Finds b o a u y
      → first_false (count_check x y) ≡ first_false (count_at t (entry_with t es) (entry_with u es))
  count-is t u x y h k =
      count-same t u x y h k ∙ ap₂ (λ (v w : Option Entry). first_false (count_at t v w)) (sym (entry_of t x h)) (sym (entry_of u y k))

  module _ (p : Uses) (found : AreUses b o es (a + 2) p) where
    pub pairs_is : first_false (pairs_checks p) ≡ first_false (pair_checks (a + 2) es)
    pairs_is =
        first_false_joined (pair_check p.jpeg_offset p.jpeg_length) (pair_check p.strip_offsets p.strip_lengths
        ++ count_check p.strip_offsets p.strip_lengths)
        (pair_at jpeg_offset_tag jpeg_length_tag (entry_with jpeg_offset_tag es) (entry_with jpeg_length_tag es))
        (pair_at strip_offsets_tag strip_lengths_tag (entry_with strip_offsets_tag es) (entry_with strip_lengths_tag es)
        ++ count_at strip_offsets_tag (entry_with strip_offsets_tag es) (entry_with strip_lengths_tag es))
        (pair-is jpeg_offset_tag jpeg_length_tag p.jpeg_offset p.jpeg_length found.jpeg_offset found.jpeg_length)
        (first_false_joined (pair_check p.strip_offsets p.strip_lengths) (count_check p.strip_offsets p.strip_lengths)
        (pair_at strip_offsets_tag strip_lengths_tag (entry_with strip_offsets_tag es) (entry_with strip_lengths_tag es))
        (count_at strip_offsets_tag (entry_with strip_offsets_tag es) (entry_with strip_lengths_tag es))
        (pair-is strip_offsets_tag strip_lengths_tag p.strip_offsets p.strip_lengths found.strip_offsets found.strip_lengths)
        (count-is strip_offsets_tag strip_lengths_tag p.strip_offsets p.strip_lengths found.strip_offsets found.strip_lengths))

    -- ---- the JPEG and the strips

    abbrev at_jpeg : ℕ
    at_jpeg = place_with jpeg_offset_tag (a + 2) es

    abbrev at_strips : ℕ
    at_strips = place_with strip_offsets_tag (a + 2) es

    jpeg-same : (x n : Option Found) → Finds b o a jpeg_offset_tag x → Finds b o a jpeg_length_tag n
        → jpeg_of x n ≡ both (λ x n. range (offset o x) (offset o n)) (option_map (entry_here b o) x) (option_map (entry_here b o) n)
    jpeg-same (Some f) (Some g) h k = ap₂ (λ (x n : ℕ). Some (range x n)) h.shown.offset_is k.shown.offset_is
    jpeg-same (Some f) None h k = refl
    jpeg-same None (Some g) h k = refl
    jpeg-same None None h k = refl

    pub jpeg_is : jpeg_of p.jpeg_offset p.jpeg_length ≡ jpeg_range o es
    unfolding jpeg_range
    jpeg_is = jpeg-same p.jpeg_offset p.jpeg_length found.jpeg_offset found.jpeg_length
        ∙ ap₂ (λ (x n : Option Entry). both (λ x n. range (offset o x) (offset o n)) x n)
        (sym (entry_of jpeg_offset_tag p.jpeg_offset found.jpeg_offset))
        (sym (entry_of jpeg_length_tag p.jpeg_length found.jpeg_length))

    strips-same : (x n : Option Found) → strips_of b o x n ≡ both (λ x n. ranges_of (numbers b o x) (numbers b o n))
        (option_map (entry_here b o) x) (option_map (entry_here b o) n)
    strips-same (Some f) (Some g) = refl
    strips-same (Some f) None = refl
    strips-same None (Some g) = refl
    strips-same None None = refl

    pub strips_is : strips_of b o p.strip_offsets p.strip_lengths ≡ strip_ranges b o es
    unfolding strip_ranges
    strips_is = strips-same p.strip_offsets p.strip_lengths
        ∙ ap₂ (λ (x n : Option Entry). both (λ x n. ranges_of (numbers b o x) (numbers b o n)) x n)
        (sym (entry_of strip_offsets_tag p.strip_offsets found.strip_offsets))
        (sym (entry_of strip_lengths_tag p.strip_lengths found.strip_lengths))

    -- their checks
    jpeg_checks-same : (taken : List Range) (x n : Option Found) → Finds b o a jpeg_offset_tag x
        → range_checks b (place_in x) taken (option_to_list (jpeg_of x n)) ≡ range_checks b at_jpeg taken (option_to_list (jpeg_of x n))
    jpeg_checks-same taken (Some f) n h = ap (λ (q : ℕ). range_checks b q taken (option_to_list (jpeg_of (Some f) n))) h.place
    jpeg_checks-same taken None n h = refl

    pub jpeg_checks_is : (taken : List Range) → range_checks b (place_in p.jpeg_offset) taken
        (option_to_list (jpeg_of p.jpeg_offset p.jpeg_length)) ≡ range_checks b at_jpeg taken (option_to_list (jpeg_range o es))
    jpeg_checks_is taken = jpeg_checks-same taken p.jpeg_offset p.jpeg_length found.jpeg_offset
        ∙ ap (λ (r : Option Range). range_checks b at_jpeg taken (option_to_list r)) jpeg_is

    strip_checks-same : (taken : List Range) (x n : Option Found) → Finds b o a strip_offsets_tag x
        → range_checks b (place_in x) taken (listed (strips_of b o x n)) ≡ range_checks b at_strips taken (listed (strips_of b o x n))
    strip_checks-same taken (Some f) n h = ap (λ (q : ℕ). range_checks b q taken (listed (strips_of b o (Some f) n))) h.place
    strip_checks-same taken None n h = refl

    pub strip_checks_is : (taken : List Range) → range_checks b (place_in p.strip_offsets) taken
        (listed (strips_of b o p.strip_offsets p.strip_lengths)) ≡ range_checks b at_strips taken (listed (strip_ranges b o es))
    strip_checks_is taken = strip_checks-same taken p.strip_offsets p.strip_lengths found.strip_offsets
        ∙ ap (λ (r : Option (List Range)). range_checks b at_strips taken (listed r)) strips_is

    -- ---- all of them, one after another
    module _ (taken : List Range) where
      abbrev jpegs : List Range
      jpegs = option_to_list (jpeg_range o es)

      abbrev jpeg_part : List Check
      jpeg_part = range_checks b at_jpeg taken jpegs

      abbrev strip_part : List Check
      strip_part = range_checks b at_strips (jpegs ++ taken) (listed (strip_ranges b o es))

      thumb_checks-parts : thumb_checks b o taken a ≡ pair_checks (a + 2) es ++ (end_checks b o a ++ (jpeg_part ++ strip_part))
      unfolding thumb_checks
      thumb_checks-parts = refl

      pub pairs_refuse : (r : Refusal) → Refuses r (pairs_checks p) → Refuses r (thumb_checks b o taken a)
      pairs_refuse r h =
          subst (Refuses r) (sym thumb_checks-parts) (Refuses_more r (pair_checks (a + 2) es)
          (end_checks b o a ++ (jpeg_part ++ strip_part)) (Refuses_same r (pairs_checks p) (pair_checks (a + 2) es) pairs_is h))

      module _ (paired : first_false (pairs_checks p) ≡ None) where
        after_pairs : (r : Refusal) → Refuses r (end_checks b o a ++ (jpeg_part ++ strip_part)) → Refuses r (thumb_checks b o taken a)
        after_pairs r h =
            subst (Refuses r) (sym thumb_checks-parts) (Refuses_after r (pair_checks (a + 2) es)
            (end_checks b o a ++ (jpeg_part ++ strip_part)) (sym pairs_is ∙ paired) h)

        pub end_refuses : (r : Refusal) → Refuses r (end_checks b o a) → Refuses r (thumb_checks b o taken a)
        end_refuses r h = after_pairs r (Refuses_more r (end_checks b o a) (jpeg_part ++ strip_part) h)

        module _ (ended : first_false (end_checks b o a) ≡ None) where
          pub jpeg_refuses : (r : Refusal) → Refuses r
              (range_checks b (place_in p.jpeg_offset) taken (option_to_list (jpeg_of p.jpeg_offset p.jpeg_length)))
              → Refuses r (thumb_checks b o taken a)
          jpeg_refuses r h =
              after_pairs r (Refuses_after r (end_checks b o a) (jpeg_part ++ strip_part) ended
              (Refuses_more r jpeg_part strip_part (subst (Refuses r) (jpeg_checks_is taken) h)))

          module _ (jpeg_good : first_false (range_checks b (place_in p.jpeg_offset) taken
              (option_to_list (jpeg_of p.jpeg_offset p.jpeg_length))) ≡ None) where
            jpeg_true : first_false jpeg_part ≡ None
            jpeg_true = subst (λ (cs : List Check). first_false cs ≡ None) (jpeg_checks_is taken) jpeg_good

            abbrev strips_now : List Check
            strips_now =
                range_checks b (place_in p.strip_offsets) (option_to_list (jpeg_of p.jpeg_offset p.jpeg_length)
                ++ taken) (listed (strips_of b o p.strip_offsets p.strip_lengths))

            strips_now-is : strips_now ≡ strip_part
            strips_now-is = strip_checks_is (option_to_list (jpeg_of p.jpeg_offset p.jpeg_length) ++ taken)
                ∙ ap (λ (r : Option Range). range_checks b at_strips (option_to_list r ++ taken) (listed (strip_ranges b o es))) jpeg_is

            pub strips_refuse : (r : Refusal) → Refuses r strips_now → Refuses r (thumb_checks b o taken a)
            strips_refuse r h =
                after_pairs r (Refuses_after r (end_checks b o a) (jpeg_part ++ strip_part) ended
                (Refuses_after r jpeg_part strip_part jpeg_true (subst (Refuses r) strips_now-is h)))

            pub thumb_true : first_false strips_now ≡ None → first_false (thumb_checks b o taken a) ≡ None
            thumb_true h = ap first_false thumb_checks-parts
                ∙ all_true (pair_checks (a + 2) es) (end_checks b o a ++ (jpeg_part ++ strip_part)) (sym pairs_is ∙ paired)
                (all_true (end_checks b o a) (jpeg_part ++ strip_part) ended
                (all_true jpeg_part strip_part jpeg_true (subst (λ (cs : List Check). first_false cs ≡ None) strips_now-is h)))

-- as many offsets as lengths, if the checks pass
even_from : (x y : Option Found) → first_false (count_check x y) ≡ None → HaveSameCount x y
even_from (Some f) (Some g) h = even_by (f.head.count == g.head.count) f.head.count g.head.count f.place refl h
  where
    even_by : (t : Bool) (n m p : ℕ) → (n == m) ≡ t → first_false (check ThumbnailPair p t ∷ []) ≡ None → n ≡ m
    even_by true n m p e h = eqb-true n m e
    even_by false n m p e h = cc
even_from (Some f) None h = tt
even_from None (Some g) h = tt
even_from None None h = tt

or_none : (x y : Option (Cause × ℕ)) → or_else x y ≡ None → y ≡ None
or_none None y h = h
or_none (Some f) y h = cc

none_right : (xs ys : List Check) → first_false (xs ++ ys) ≡ None → first_false ys ≡ None
none_right xs ys h = or_none (first_false xs) (first_false ys) (sym (first_append xs ys) ∙ h)

pub even_parts : (p : Uses) → first_false (pairs_checks p) ≡ None → HaveSameCount p.strip_offsets p.strip_lengths
even_parts p h = even_from p.strip_offsets p.strip_lengths
    (none_right (pair_check p.strip_offsets p.strip_lengths) (count_check p.strip_offsets p.strip_lengths)
    (none_right (pair_check p.jpeg_offset p.jpeg_length) (pair_check p.strip_offsets p.strip_lengths
    ++ count_check p.strip_offsets p.strip_lengths) h))
