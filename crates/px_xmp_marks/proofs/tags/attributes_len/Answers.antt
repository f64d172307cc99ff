use Rattle.std.proofs.Common.{◌≡◌, ◌+◌, ℕ, List, Some, None, option_map, length, drop, sym, ap, ◌∙◌, arith, drop-drop, length-drop, true, false}
use Rattle.px_xmp_marks.specs.Reading.{Attr, space_len, ends_tag, attribute, attribute_view, attributes_in}
use Rattle.px_xmp_marks.proofs.TagSteps.{after_space, ends_here, no_space, no_attribute, one_more}
use Rattle.px_xmp_marks.proofs.tags.attributes_len.Goals as goal

-- what follows the white space
behind : (y z : List ℕ) (s : ℕ) → s ≡ space_len y → z ≡ drop s y → z ≡ after_space y
behind y z s e f = f ∙ ap (λ (j : ℕ). drop j y) e

pub returns-then-ends_tag-clause-value : goal.returns-then-ends_tag-clause-value
returns-then-ends_tag-clause-value c =
    let y = c.split_at.result.1.now in
    let at = c.loop-after.at in
    let s = c.space_len-space.ensures.value in
    let z = behind y c.split_at-in-loop-after.result.1.now c.space_len-space.result s c.split_at-in-loop-after.ensures.back in
    let (m, room, same) = c.loop-after.invariant.left in
    let e : ends_tag (after_space y) ≡ true = ap ends_tag (sym z) ∙ sym c.ends_tag.ensures ∙ c.if-ends_tag.true in
    ap (λ (j : ℕ). Some (at + j)) s ∙ sym (ends_here m at y (omega (arith, room)) e)
    ∙ ap (λ (x : List ℕ). option_map (λ (r : List Attr × ℕ). at + r.1) (attributes_in m x)) c.split_at.ensures.back ∙ same

pub returns-then-space-eq0-clause-value : goal.returns-then-space-eq0-clause-value
returns-then-space-eq0-clause-value c =
    let y = c.split_at.result.1.now in
    let at = c.loop-after.at in
    let s = c.space_len-space.ensures.value in
    let z = behind y c.split_at-in-loop-after.result.1.now c.space_len-space.result s c.split_at-in-loop-after.ensures.back in
    let (m, room, same) = c.loop-after.invariant.left in
    let e : ends_tag (after_space y) ≡ false = ap ends_tag (sym z) ∙ sym c.ends_tag.ensures ∙ c.if-ends_tag.false in
    sym (no_space m at y e (sym s ∙ c.if-space-eq0.true))
    ∙ ap (λ (x : List ℕ). option_map (λ (r : List Attr × ℕ). at + r.1) (attributes_in m x)) c.split_at.ensures.back ∙ same

pub returns-in_default-clause-value : goal.returns-in_default-clause-value
returns-in_default-clause-value c =
    let y = c.split_at.result.1.now in
    let at = c.loop-after.at in
    let s = c.space_len-space.ensures.value in
    let z = behind y c.split_at-in-loop-after.result.1.now c.space_len-space.result s c.split_at-in-loop-after.ensures.back in
    let (m, room, same) = c.loop-after.invariant.left in
    let e : ends_tag (after_space y) ≡ false = ap ends_tag (sym z) ∙ sym c.ends_tag.ensures ∙ c.if-ends_tag.false in
    let h : attribute (after_space y) ≡ None = ap attribute (sym z) ∙ sym c.in_default.ensures.value in
    sym (no_attribute m at y e (omega (arith, s, c.if-space-eq0.false)) h)
    ∙ ap (λ (x : List ℕ). option_map (λ (r : List Attr × ℕ). at + r.1) (attributes_in m x)) c.split_at.ensures.back ∙ same

pub loop-after-preserved : goal.loop-after-preserved
loop-after-preserved c =
    let xs = c.args.octets.now in
    let y = c.split_at.result.1.now in
    let at = c.loop-after.at in
    let n = c.space_len-space.result in
    let a = attribute_view c.in-Some.attribute in
    let s = c.space_len-space.ensures.value in
    let back = c.split_at.ensures.back in
    let more = c.split_at-in-loop-after.ensures.back in
    let z = behind y c.split_at-in-loop-after.result.1.now n s more in
    let (m, room, same) = c.loop-after.invariant.left in
    let e : ends_tag (after_space y) ≡ false = ap ends_tag (sym z) ∙ sym c.ends_tag.ensures ∙ c.if-ends_tag.false in
    let h : attribute (after_space y) ≡ Some a = ap attribute (sym z) ∙ sym c.in-Some.ensures.value in
    let (j, fuel, step) = one_more m at y a (omega (arith, room)) e (omega (arith, s, c.if-space-eq0.false)) h in
    let there : drop (at + (n + a.size)) xs ≡ drop a.size (after_space y) =
    sym (drop-drop (n + a.size) at xs) ∙ ap (λ (x : List ℕ). drop (n + a.size) x) (sym back) ∙ sym (drop-drop a.size n y)
    ∙ ap (λ (k : ℕ). drop a.size (drop k y)) s in
    let l1 = length-drop at xs in
    let l2 = ap length back in
    let l3 = ap length more in
    let l4 = length-drop n y in
    record {
      within = omega (arith, c.in-Some.ensures.within, l1, l2, l3, l4, c.space_len-space.ensures.within);
      left = (
        j,
        omega (arith, room, fuel, c.in-Some.ensures.within),
        ap (λ (x : List ℕ). option_map (λ (r : List Attr × ℕ). at + (n + a.size) + r.1) (attributes_in j x)) there
            ∙ ap (λ (k : ℕ). option_map (λ (r : List Attr × ℕ). at + (k + a.size) + r.1) (attributes_in j (drop a.size (after_space y)))) s
            ∙ sym step ∙ ap (λ (x : List ℕ). option_map (λ (r : List Attr × ℕ). at + r.1) (attributes_in m x)) back ∙ same,
      );
    }
