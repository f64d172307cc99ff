-- A picture's bytes, one part on.
use Rattle.std.proofs.Common.{◌≡◌, ◌≤◌, ◌<◌, ◌+◌, ℕ, true, false, inl, inr, Option, unwrap_or, is_some}
use Rattle.std.proofs.Common.{List, [], ◌∷◌, ◌++◌, length, drop, refl, sym, ap, ◌∙◌, subst}
use Rattle.std.proofs.Common.{arith, length-drop, length-append, append_assoc, leb-true, nat_le}
use Rattle.std.proofs.Common.{◌==◌, ◌&&◌, slice_index}
use Rattle.std.proofs.lemmas.Bool.{and_parts}
use Rattle.std.proofs.lemmas.List.{drop-drop}
use Rattle.px_jpeg.specs.declared.parts.Part.{Part}
use Rattle.px_jpeg.specs.Head.{is_last, IsPart, HasHead}
use Rattle.px_jpeg.specs.Fault.{SplitAt}
use Rattle.px_jpeg.specs.Reading.{is_part, part, size, starts, head_of}
use Rattle.px_jpeg.proofs.OnePart.{Reads, Begins, part_begins}
use Rattle.px_jpeg.proofs.ManyParts.{size_ge, encodes_more, none_more, ends_after}
use Rattle.px_jpeg.proofs.HeadLaws.{meaning_is_computed}

-- where a part ends
pub part_end : (p : ℕ) (q : Part) (a : List ℕ) → IsPart p q a → q.start + q.size ≡ p + length a
part_end p q a (inl r) = omega (arith, r.start, r.empty, ap length r.whole, length-append r.fill (255 ∷ q.code ∷ []))
part_end p q a (inr r) =
    omega (arith, r.start, r.size, ap length r.whole, length-append r.fill (255 ∷ q.code ∷ r.high ∷ r.low ∷ r.octets))

-- the part q was read at offset `at`
module _ (b : List ℕ) (at : ℕ) (y : List ℕ) (q : Part) (e : y ≡ drop at b) (h : is_part y ≡ true) (v : q ≡ part at y) where
  begun : Begins at q (size y) y
  begun = subst (λ (s : Part). Begins at s (size y) y) (sym v) (part_begins at y h)

  pub part_read : Reads at q (size y) y
  part_read = record { there = h; value = sym v; sized = refl }

  pub end_is : q.start + q.size ≡ at + size y
  end_is = part_end at q begun.front begun.is ∙ ap (λ (n : ℕ). at + n) begun.long

  pub part_advances : at < q.start + q.size
  part_advances = omega (arith, end_is, size_ge y)

  pub part_inside : at ≤ length b → q.start + q.size ≤ length b
  part_inside n =
      omega (arith, end_is, begun.long, ap length begun.whole, length-append begun.front (drop (size y) y), ap length e, length-drop at b)

  pub rest_after : drop (size y) y ≡ drop (q.start + q.size) b
  rest_after = ap (drop (size y)) e ∙ drop-drop (size y) at b ∙ ap (λ (n : ℕ). drop n b) (sym end_is)

  module _ (ps : List Part) (r : SplitAt b ps (drop at b) at) where
    whole_is : b ≡ 255 ∷ 216 ∷ ((r.front ++ begun.front) ++ drop (q.start + q.size) b)
    whole_is =
        r.whole
        ∙ ap (λ (z : List ℕ). 255 ∷ 216 ∷ (r.front ++ z)) (sym e ∙ begun.whole ∙ ap (λ (z : List ℕ). begun.front ++ z) rest_after)
        ∙ ap (λ (z : List ℕ). 255 ∷ 216 ∷ z) (sym (append_assoc r.front begun.front (drop (q.start + q.size) b)))

    pub next_after : is_last q.code ≡ false → SplitAt b (ps ++ q ∷ []) (drop (q.start + q.size) b) (q.start + q.size)
    next_after l = record {
      front = r.front ++ begun.front;
      whole = whole_is;
      encodes = encodes_more ps 2 r.front q begun.front r.encodes (subst (λ (k : ℕ). IsPart k q begun.front) r.place begun.is);
      before = none_more ps q r.before l;
      place = omega (arith, end_is, begun.long, r.place, length-append r.front begun.front);
    }

    pub means_head : is_last q.code ≡ true → HasHead b (ps ++ q ∷ [])
    means_head l = record {
      encoded = r.front ++ begun.front;
      rest = drop (q.start + q.size) b;
      whole = whole_is;
      encodes = encodes_more ps 2 r.front q begun.front r.encodes (subst (λ (k : ℕ). IsPart k q begun.front) r.place begun.is);
      ends = ends_after ps q r.before l;
    }

-- the start mark was read
pub start_long : (b : List ℕ) → starts b ≡ true → 2 ≤ length b
start_long b s =
    let a = and_parts (nat_le 2 (length b) && (slice_index b 0 == 255)) (slice_index b 1 == 216) s in
    leb-true 2 (length b) (and_parts (nat_le 2 (length b)) (slice_index b 0 == 255) a.0).0

-- a head that was read is the one that is computed
pub some_head : (b : List ℕ) (qs : List Part) → HasHead b qs → is_some (head_of b) ≡ true
some_head b qs s = ap is_some (meaning_is_computed b qs s)

pub whole_head : (b : List ℕ) (qs : List Part) → HasHead b qs → HasHead b (unwrap_or (head_of b) [])
whole_head b qs s =
    subst (HasHead b) (sym (ap (λ (o : Option (List Part)). unwrap_or o []) (meaning_is_computed b qs s))) s
