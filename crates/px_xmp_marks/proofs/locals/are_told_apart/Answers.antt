use Rattle.std.proofs.Common.{◌≡◌, ◌+◌, ◌-◌, ◌∷◌, ℕ, List, true, false, drop, set, map, subst, sym, ap, ◌∙◌, arith}
use Rattle.std.proofs.lemmas.List.{length-set}
use Rattle.px_xmp_marks.specs.declared.attributes.Attribute.{Attribute}
use Rattle.px_xmp_marks.specs.Reading.{attribute_view}
use Rattle.px_xmp_marks.specs.Locals.{HaveKeys, is_local_of, are_locals_distinct}
use Rattle.px_xmp_marks.proofs.LocalLaws.{more_keys, more_distinct, not_distinct, left_wrong}
use Rattle.px_xmp_marks.proofs.locals.are_told_apart.Goals as goal

pub loop-n-preserved : goal.loop-n-preserved
loop-n-preserved c =
    let xs = c.args.attributes.now in
    let n = c.loop-n.n in
    let seen = c.loop-n.seen in
    let v = c.loop-n.invariant in
    let x = c.at.result in
    let within = v.within in
    let size = v.size in
    let next : n - 1 + 1 ≡ n = omega (arith, c.loop-n-test.true) in
    let cut : drop (n - 1) xs ≡ x ∷ drop n xs =
    c.at.ensures ∙ ap (λ (k : ℕ). x ∷ drop k xs) next in
    let back : c.split_at.result.1.now ≡ drop n xs = c.split_at.ensures.back ∙ ap (λ (k : ℕ). drop k xs) next in
    let keys = v.keys in
    let noted =
    c.is_noted.ensures (subst (λ (z : List Attribute). HaveKeys seen (map attribute_view z)) (sym back) keys) in
    let other : is_local_of x.name.local.now (map attribute_view (drop n xs)) ≡ false =
    ap (λ (z : List Attribute). is_local_of x.name.local.now (map attribute_view z)) (sym back) ∙ sym noted ∙ c.if-is_noted.false in
    let long = length-set seen c.key-place.result true in
    record {
      within = omega (arith, within);
      size = long ∙ size;
      keys = subst (λ (z : List Attribute). HaveKeys (set seen c.key-place.result true) (map attribute_view z)) (sym cut)
          (more_keys seen c.key-place.result (attribute_view x) (map attribute_view (drop n xs)) (omega (arith, size, c.key-place.ensures.within))
          c.key-place.ensures.value keys);
      distinct = ap (λ (z : List Attribute). are_locals_distinct (map attribute_view z)) cut
          ∙ more_distinct (attribute_view x) (map attribute_view (drop n xs)) other v.distinct;
    }

pub returns-then-is_noted : goal.returns-then-is_noted
returns-then-is_noted c =
    let xs = c.args.attributes.now in
    let n = c.loop-n.n in
    let seen = c.loop-n.seen in
    let v = c.loop-n.invariant in
    let x = c.at.result in
    let within = v.within in
    let next : n - 1 + 1 ≡ n = omega (arith, c.loop-n-test.true) in
    let cut : drop (n - 1) xs ≡ x ∷ drop n xs =
    c.at.ensures ∙ ap (λ (k : ℕ). x ∷ drop k xs) next in
    let back : c.split_at.result.1.now ≡ drop n xs = c.split_at.ensures.back ∙ ap (λ (k : ℕ). drop k xs) next in
    let noted =
    c.is_noted.ensures (subst (λ (z : List Attribute). HaveKeys seen (map attribute_view z)) (sym back) v.keys) in
    let same : is_local_of x.name.local.now (map attribute_view (drop n xs)) ≡ true =
    ap (λ (z : List Attribute). is_local_of x.name.local.now (map attribute_view z)) (sym back) ∙ sym noted ∙ c.if-is_noted.true in
    sym (left_wrong (n - 1) xs
    (ap (λ (z : List Attribute). are_locals_distinct (map attribute_view z)) cut
    ∙ not_distinct (attribute_view x) (map attribute_view (drop n xs)) same))
