use Rattle.std.proofs.Common.{◌≡◌, ◌+◌, ℕ, suc, List, [], ◌∷◌, ◌++◌, Option, Some, None, option_map, length, drop, refl, sym, ap, ◌∙◌, arith, drop-drop, length-drop, true, false}
use Rattle.px_xmp_marks.specs.Reading.{Attr, space_len, ends_tag, attribute, attribute_view, attributes_in, attributes_of}
use Rattle.px_xmp_marks.proofs.TagSteps.{Listed, after_space, after, all_listed, none_listed, wrong_listed, more_listed, one_stored, all_stored, none_seen}
use Rattle.px_xmp_marks.proofs.stored.store_attributes.Goals as goal

-- what follows the white space
behind : (y z : List ℕ) (s : ℕ) → s ≡ space_len y → z ≡ drop s y → z ≡ after_space y
behind y z s e f = f ∙ ap (λ (j : ℕ). drop j y) e

-- the octets before the end of attributes that are all read
whole_size : (x : List ℕ) (seen : List Attr) (n : ℕ) → Some (seen, n) ≡ attributes_of x → Some n ≡ option_map (λ (r : Listed). r.1) (attributes_of x)
whole_size x seen n e = ap (λ (q : Option Listed). option_map (λ (r : Listed). r.1) q) e

whole_list : (x : List ℕ) (seen : List Attr) (n : ℕ) → Some (seen, n) ≡ attributes_of x → option_map (λ (r : Listed). r.0) (attributes_of x) ≡ Some seen
whole_list x seen n e = sym (ap (λ (q : Option Listed). option_map (λ (r : Listed). r.0) q) e)

no_size : (x : List ℕ) → None ≡ attributes_of x → None ≡ option_map (λ (r : Listed). r.1) (attributes_of x)
no_size x e = ap (λ (q : Option Listed). option_map (λ (r : Listed). r.1) q) e

pub returns-then-ends_tag-clause-value : goal.returns-then-ends_tag-clause-value
returns-then-ends_tag-clause-value c =
    let y = c.split_at.result.1.now in
    let at = c.loop-after.at in
    let s = c.space_len-space_size.ensures.value in
    let z = behind y c.split_at-in-loop-after.result.1.now c.space_len-space_size.result s c.split_at-in-loop-after.ensures.back in
    let (m, seen, room, same, kept) = c.loop-after.invariant.left in
    let e : ends_tag (after_space y) ≡ true = ap ends_tag (sym z) ∙ sym c.ends_tag.ensures ∙ c.if-ends_tag.true in
    ap (λ (j : ℕ). Some (at + j)) s
    ∙ whole_size c.args.octets.now seen (at + space_len y)
    (sym (all_stored at (space_len y) seen) ∙ sym (ap (option_map (after seen at)) (all_listed m y (omega (arith, room)) e))
    ∙ ap (λ (x : List ℕ). option_map (after seen at) (attributes_in m x)) c.split_at.ensures.back ∙ same)

pub returns-then-ends_tag-clause-stored : goal.returns-then-ends_tag-clause-stored
returns-then-ends_tag-clause-stored c few =
    let y = c.split_at.result.1.now in
    let at = c.loop-after.at in
    let s = c.space_len-space_size.ensures.value in
    let z = behind y c.split_at-in-loop-after.result.1.now c.space_len-space_size.result s c.split_at-in-loop-after.ensures.back in
    let (m, seen, room, same, kept) = c.loop-after.invariant.left in
    let e : ends_tag (after_space y) ≡ true = ap ends_tag (sym z) ∙ sym c.ends_tag.ensures ∙ c.if-ends_tag.true in
    whole_list c.args.octets.now seen (at + space_len y)
    (sym (all_stored at (space_len y) seen) ∙ sym (ap (option_map (after seen at)) (all_listed m y (omega (arith, room)) e))
    ∙ ap (λ (x : List ℕ). option_map (after seen at) (attributes_in m x)) c.split_at.ensures.back ∙ same)
    ∙ ap Some (sym (kept few))

pub returns-then-space_size-eq0-clause-value : goal.returns-then-space_size-eq0-clause-value
returns-then-space_size-eq0-clause-value c =
    let y = c.split_at.result.1.now in
    let at = c.loop-after.at in
    let s = c.space_len-space_size.ensures.value in
    let z = behind y c.split_at-in-loop-after.result.1.now c.space_len-space_size.result s c.split_at-in-loop-after.ensures.back in
    let (m, seen, room, same, kept) = c.loop-after.invariant.left in
    let e : ends_tag (after_space y) ≡ false = ap ends_tag (sym z) ∙ sym c.ends_tag.ensures ∙ c.if-ends_tag.false in
    no_size c.args.octets.now
    (sym (ap (option_map (after seen at)) (none_listed m y e (sym s ∙ c.if-space_size-eq0.true)))
    ∙ ap (λ (x : List ℕ). option_map (after seen at) (attributes_in m x)) c.split_at.ensures.back ∙ same)

pub returns-in_default-clause-value : goal.returns-in_default-clause-value
returns-in_default-clause-value c =
    let y = c.split_at.result.1.now in
    let at = c.loop-after.at in
    let s = c.space_len-space_size.ensures.value in
    let z = behind y c.split_at-in-loop-after.result.1.now c.space_len-space_size.result s c.split_at-in-loop-after.ensures.back in
    let (m, seen, room, same, kept) = c.loop-after.invariant.left in
    let e : ends_tag (after_space y) ≡ false = ap ends_tag (sym z) ∙ sym c.ends_tag.ensures ∙ c.if-ends_tag.false in
    let h : attribute (after_space y) ≡ None = ap attribute (sym z) ∙ sym c.in_default.ensures.value in
    no_size c.args.octets.now
    (sym (ap (option_map (after seen at)) (wrong_listed m y e (omega (arith, s, c.if-space_size-eq0.false)) h))
    ∙ ap (λ (x : List ℕ). option_map (after seen at) (attributes_in m x)) c.split_at.ensures.back ∙ same)

pub loop-after-init : goal.loop-after-init
loop-after-init c = record {
  within = omega arith;
  few = omega arith;
  size = refl;
  left = (suc (length c.args.octets.now), [], omega arith, none_seen (attributes_of c.args.octets.now), λ h. refl);
}

pub loop-after-preserved : goal.loop-after-preserved
loop-after-preserved c =
    let xs = c.args.octets.now in
    let y = c.split_at.result.1.now in
    let at = c.loop-after.at in
    let len = c.loop-after.len in
    let n = c.space_len-space_size.result in
    let a = attribute_view c.in-Some.attribute in
    let s = c.space_len-space_size.ensures.value in
    let back = c.split_at.ensures.back in
    let more = c.split_at-in-loop-after.ensures.back in
    let z = behind y c.split_at-in-loop-after.result.1.now n s more in
    let (m, seen, room, same, kept) = c.loop-after.invariant.left in
    let e : ends_tag (after_space y) ≡ false = ap ends_tag (sym z) ∙ sym c.ends_tag.ensures ∙ c.if-ends_tag.false in
    let h : attribute (after_space y) ≡ Some a = ap attribute (sym z) ∙ sym c.in-Some.ensures.value in
    let (j, fuel, step) = more_listed m at seen y a (omega (arith, room)) e (omega (arith, s, c.if-space_size-eq0.false)) h in
    let there : drop (at + (n + a.size)) xs ≡ drop a.size (after_space y) =
    sym (drop-drop (n + a.size) at xs) ∙ ap (λ (x : List ℕ). drop (n + a.size) x) (sym back) ∙ sym (drop-drop a.size n y)
    ∙ ap (λ (k : ℕ). drop a.size (drop k y)) s in
    let l1 = length-drop at xs in
    let l2 = ap length back in
    let l3 = ap length more in
    let l4 = length-drop n y in
    let seen_now : List Attr = seen ++ a ∷ [] in
    record {
      within = omega (arith, c.in-Some.ensures.within, l1, l2, l3, l4, c.space_len-space_size.ensures.within);
      few = omega (arith, c.in-Some.ensures.within, c.loop-after.invariant.few);
      size = c.store.ensures.size ∙ c.loop-after.invariant.size;
      left = (
        j,
        seen_now,
        omega (arith, room, fuel, c.in-Some.ensures.within),
        ap (λ (x : List ℕ). option_map (after seen_now (at + (n + a.size))) (attributes_in j x)) there
            ∙ ap (λ (k : ℕ). option_map (after seen_now (at + (k + a.size))) (attributes_in j (drop a.size (after_space y)))) s
            ∙ sym step ∙ ap (λ (x : List ℕ). option_map (after seen at) (attributes_in m x)) back ∙ same,
        one_stored len c.loop-after.space c.store.new.space seen c.in-Some.attribute c.store.ensures.size c.store.ensures.stored kept,
      );
    }
