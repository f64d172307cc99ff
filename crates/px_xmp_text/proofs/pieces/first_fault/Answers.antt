use Rattle.std.proofs.Common.{◌+◌, ℕ, List, length, drop, option_map, sym, ap, ◌∙◌, arith, drop-drop, length-drop}
use Rattle.px_xmp_text.specs.Texts.{piece, fault_in}
use Rattle.px_xmp_text.proofs.PieceLaws.{fault_on, fault_here, fault_none, no_fault}
use Rattle.px_xmp_text.proofs.pieces.first_fault.Goals as goal

pub loop-at-preserved : goal.loop-at-preserved
loop-at-preserved c =
    let xs = c.args.octets.now in
    let k = c.args.kind in
    let at = c.loop-at.at in
    let n = c.in-Some.len in
    let back = c.split_at.ensures.back in
    let long = ap length back in
    let l = length-drop at xs in
    let (m, room, same) = c.loop-at.invariant.1 in
    let e = ap (λ (x : List ℕ). option_map (λ (q : List ℕ × ℕ). q.1) (piece k x)) (sym back) ∙ sym c.in-Some.ensures.value in
    let (j, left, more) = fault_on m at n k (drop at xs) (omega (arith, c.loop-at-test.true)) (omega arith)
    (omega (arith, c.in-Some.ensures.bound)) e in (
      omega (arith, c.in-Some.ensures.bound, c.loop-at-test.true),
      (j, omega (arith, c.loop-at-test.true), ap (λ (x : List ℕ). fault_in j (at + n) k x) (sym (drop-drop n at xs)) ∙ sym more ∙ same),
    )

pub returns-then-not-contains : goal.returns-then-not-contains
returns-then-not-contains c =
    let xs = c.args.octets.now in
    sym (no_fault (length xs) 0 c.args.kind xs (omega arith) (sym c.contains.ensures.value ∙ c.if-not-contains.true))

pub returns-in-None : goal.returns-in-None
returns-in-None c =
    let xs = c.args.octets.now in
    let k = c.args.kind in
    let at = c.loop-at.at in
    let l = length-drop at xs in
    let (m, room, same) = c.loop-at.invariant.1 in
    let e = ap (λ (x : List ℕ). option_map (λ (q : List ℕ × ℕ). q.1) (piece k x)) (sym c.split_at.ensures.back)
    ∙ sym c.in-None.ensures.value in
    sym (fault_here m at k (drop at xs) (omega (arith, c.loop-at-test.true)) e) ∙ same

pub returns : goal.returns
returns c =
    let xs = c.args.octets.now in
    let at = c.loop-at.at in
    let l = length-drop at xs in
    let (m, room, same) = c.loop-at.invariant.1 in
    sym (fault_none m at c.args.kind (drop at xs) (omega (arith, c.loop-at-test.false))) ∙ same
