use Rattle.std.proofs.Common.{◌≡◌, ◌+◌, ◌++◌, ℕ, List, length, drop, sym, ap, ◌∙◌, arith, drop-drop, length-drop, append-nil}
use Rattle.px_xmp_text.specs.Texts.{text_in, normal_text}
use Rattle.px_xmp_text.proofs.PieceLaws.{none_left, push_more}
use Rattle.px_xmp_text.proofs.normal.append_text.Goals as goal

pub append_part-at-requires-clause-good : goal.append_part-at-requires-clause-good
append_part-at-requires-clause-good c =
    let (t, e) = c.requires.good in
    let (m, rest, left, joined) = c.loop-at.invariant.left t e in
    (m, rest, ap (λ (x : List ℕ). text_in m c.args.kind x) c.split_at.ensures.back ∙ left)

pub append_part-at-requires-clause-room : goal.append_part-at-requires-clause-room
append_part-at-requires-clause-room c =
    let l = length-drop c.loop-at.at c.args.octets.now in
    omega (arith, c.loop-at.invariant.room, ap length c.split_at.ensures.back, l)

pub loop-at-preserved : goal.loop-at-preserved
loop-at-preserved c =
    let xs = c.args.octets.now in
    let at = c.loop-at.at in
    let n = c.append_part-at.result in
    let back = c.split_at.ensures.back in
    let long = ap length back in
    let l = length-drop at xs in
    record {
      within = omega (arith, c.append_part-at.ensures.bound, c.loop-at-test.true);
      left = λ t e.
          let (m, rest, left, joined) = c.loop-at.invariant.left t e in
          let v = c.append_part-at.ensures.value m rest (ap (λ (x : List ℕ). text_in m c.args.kind x) back ∙ left) in
          let there : drop (at + n) xs ≡ drop n c.split_at.result.1.now =
          sym (drop-drop n at xs) ∙ ap (λ (x : List ℕ). drop n x) (sym back) in (
            v.fuel,
            v.later,
            ap (λ (x : List ℕ). text_in v.fuel c.args.kind x) there ∙ v.rest,
            push_more _ _ v.part v.later rest _ v.appended v.joined joined,
          );
      room = omega (arith, c.append_part-at.ensures.bound, c.append_part-at.ensures.room, c.loop-at.invariant.room, c.loop-at-test.true);
      failed_allocations = c.append_part-at.ensures.failed_allocations ∙ c.loop-at.invariant.failed_allocations;
      asked = c.append_part-at.ensures.asked ∙ c.loop-at.invariant.asked;
    }

pub returns-clause-items : goal.returns-clause-items
returns-clause-items c t e =
    let (m, rest, left, joined) = c.loop-at.invariant.left t e in
    let l = length-drop c.loop-at.at c.args.octets.now in
    let none = none_left m c.args.kind (drop c.loop-at.at c.args.octets.now) rest (omega (arith, c.loop-at-test.false)) left in
    sym (append-nil _) ∙ ap (λ (z : List ℕ). c.loop-at.out.items ++ normal_text z) (sym none) ∙ joined
