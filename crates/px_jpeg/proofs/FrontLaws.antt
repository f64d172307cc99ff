-- A head in a file's first bytes is the file's.
use Rattle.std.proofs.Common.{◌≡◌, ◌≤◌, ℕ, inl, inr, List, [], ◌∷◌, ◌++◌, length, ap, ◌∙◌, arith, append_assoc, length-append, refl}
use Rattle.px_jpeg.specs.declared.parts.Part.{Part}
use Rattle.px_jpeg.specs.declared.faults.HeadCause.TheVariants.{NoMarker, LengthForm}
use Rattle.px_jpeg.specs.Head.{HasHead}
use Rattle.px_jpeg.specs.Fault.{Opens, pair, FaultAt, SplitAt}
use Rattle.px_jpeg.specs.Laws.{FrontServes, end_mark, FaultServes}
use Rattle.std.proofs.Common.{◌+◌, take, take_at, append-nil, sym}
use Rattle.px_jpeg.specs.declared.faults.HeadCause.TheVariants.{NoStart, HeadCut}
use Rattle.px_jpeg.specs.Head.{IsPart}
use Rattle.px_jpeg.proofs.ManyParts.{encodes_more, ends_after}

head_more : (b more : List ℕ) (parts : List Part) → HasHead b parts → HasHead (b ++ more) parts
head_more b more parts s = record {
  encoded = s.encoded;
  rest = s.rest ++ more;
  whole = ap (λ (x : List ℕ). x ++ more) s.whole ∙ ap (λ (x : List ℕ). 255 ∷ 216 ∷ x) (append_assoc s.encoded s.rest more);
  encodes = s.encodes;
  ends = s.ends;
}

after_more : (b more rest : List ℕ) (parts : List Part) (p : ℕ) → SplitAt b parts rest p → SplitAt (b ++ more) parts (rest ++ more) p
after_more b more rest parts p r = record {
  front = r.front;
  whole = ap (λ (x : List ℕ). x ++ more) r.whole ∙ ap (λ (x : List ℕ). 255 ∷ 216 ∷ x) (append_assoc r.front rest more);
  encodes = r.encodes;
  before = r.before;
  place = r.place;
}

opens_more : (x y more : List ℕ) → Opens x y → Opens (x ++ more) (y ++ more)
opens_more x y more o = record {
  fill = o.fill;
  code = o.code;
  filled = o.filled;
  marker = o.marker;
  segment = o.segment;
  whole = ap (λ (z : List ℕ). z ++ more) o.whole ∙ append_assoc o.fill (255 ∷ o.code ∷ y) more;
}

pair_more : (y more : List ℕ) → 2 ≤ length y → pair (y ++ more) ≡ pair y
pair_more [] more l = absurd (omega arith)
pair_more (a ∷ []) more l = absurd (omega arith)
pair_more (a ∷ b ∷ y) more l = refl

marker_more : (x more : List ℕ) → FaultAt NoMarker x → FaultAt NoMarker (x ++ more)
marker_more x more (inl (o, y, e, k)) = inl (o, y ++ more, ap (λ (z : List ℕ). z ++ more) e, k)
marker_more x more (inr (fill, y, f, e)) =
    inr (fill, y ++ more, f, ap (λ (z : List ℕ). z ++ more) e ∙ append_assoc fill (255 ∷ 0 ∷ y) more)

length_more : (x more : List ℕ) → FaultAt LengthForm x → FaultAt LengthForm (x ++ more)
length_more x more (y, o, l, p) =
    (y ++ more, opens_more x y more o, omega (arith, length-append y more), omega (arith, pair_more y more l))

pub front_serves : FrontServes
front_serves = (
  head_more,
  (λ b more p f. let (parts, rest, r, k) = f in (parts, rest ++ more, after_more b more rest parts p r, marker_more rest more k)),
  (λ b more p f. let (parts, rest, r, k) = f in (parts, rest ++ more, after_more b more rest parts p r, length_more rest more k)),
)

-- ---- what stands before a fault

end_part : (p n : ℕ) → p ≡ n → IsPart n (end_mark p) (255 ∷ 217 ∷ [])
end_part p n e = inl (record {
  fill = [];
  filled = tt;
  marker = (λ h. absurd (omega arith), λ h. absurd (omega arith));
  alone = refl;
  whole = refl;
  start = omega (arith, e);
  empty = refl;
})

cut_head : (b rest : List ℕ) (parts : List Part) (p : ℕ) → SplitAt b parts rest p
    → HasHead (take p b ++ 255 ∷ 217 ∷ []) (parts ++ end_mark p ∷ [])
cut_head b rest parts p r =
    let l : length (255 ∷ 216 ∷ r.front) ≡ p = omega (arith, r.place) in
    let t : take p b ≡ 255 ∷ 216 ∷ r.front = ap (take p) r.whole ∙ take_at (255 ∷ 216 ∷ r.front) rest p l in
    record {
      encoded = r.front ++ 255 ∷ 217 ∷ [];
      rest = [];
      whole = ap (λ (x : List ℕ). x ++ 255 ∷ 217 ∷ []) t
          ∙ ap (λ (x : List ℕ). 255 ∷ 216 ∷ x) (sym (append-nil (r.front ++ 255 ∷ 217 ∷ [])));
      encodes = encodes_more parts 2 r.front (end_mark p) (255 ∷ 217 ∷ []) r.encodes (end_part p (2 + length r.front) r.place);
      ends = ends_after parts (end_mark p) r.before refl;
    }

pub fault_serves : FaultServes
fault_serves b NoStart p n f = absurd (n refl)
fault_serves b NoMarker p n (parts, rest, r, k) = (parts, rest, r, cut_head b rest parts p r)
fault_serves b LengthForm p n (parts, rest, r, k) = (parts, rest, r, cut_head b rest parts p r)
fault_serves b HeadCut p n (parts, rest, r, k) = (parts, rest, r, cut_head b rest parts p r)
