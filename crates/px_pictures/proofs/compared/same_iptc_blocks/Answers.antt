use Rattle.std.proofs.Common.{◌≡◌, true, false, sym, ap, ◌∙◌, subst, arith, rules}
use Rattle.px_iim.specs.Group.{Record}
use Rattle.px_iim.specs.Record.{SaysIim}
use Rattle.px_iim.specs.lemmas.RecordLaws.{one_record}
use Rattle.px_pictures.specs.Asking.{iptc_requests}
use Rattle.px_pictures.proofs.PairLaws.{mean_first, same_pair, alike_pair, other_pair, unlike_pair, not_same}
use Rattle.px_pictures.proofs.compared.same_iptc_blocks.Goals as goal

pub loop-block-preserved : goal.loop-block-preserved
loop-block-preserved c =
    let t : c.in_ok-same_iptc.field-0 ≡ true = search rules in
    let (m, n, s, u, e) = c.in_ok-same_iptc.ensures.same in
    let pair = same_pair Record SaysIim c.loop-block.left c.loop-block.others c.next.new.self c.next-in-loop-block.new.self
    c.in-Some.block.now
    c.in-Some-next.other.now m c.in-Some.ensures.steps c.in-Some-next.ensures.steps s
    (subst (λ (k : Record). SaysIim c.in-Some-next.other.now k) (sym (e.0 t)) u) in
    let like = alike_pair Record SaysIim c.loop-block.left c.loop-block.others c.next.new.self c.next-in-loop-block.new.self
    c.in-Some.block.now
    c.in-Some-next.other.now m c.in-Some.ensures.steps c.in-Some-next.ensures.steps s
    (subst (λ (k : Record). SaysIim c.in-Some-next.other.now k) (sym (e.0 t)) u) in
    record {
      same = (λ h. c.loop-block.invariant.same.0 (pair.1 h), λ h. pair.0 (c.loop-block.invariant.same.1 h));
      alike = (λ h. c.loop-block.invariant.alike.0 (like.1 h), λ h. like.0 (c.loop-block.invariant.alike.1 h));
      left_has_meaning = (mean_first Record SaysIim c.loop-block.left c.next.new.self c.in-Some.block.now c.in-Some.ensures.steps
          c.loop-block.invariant.left_has_meaning).1;
      others_has_meaning = (mean_first Record SaysIim c.loop-block.others c.next-in-loop-block.new.self c.in-Some-next.other.now
          c.in-Some-next.ensures.steps c.loop-block.invariant.others_has_meaning).1;
      failed_allocations = c.in_ok-same_iptc.ensures.memory ∙ c.loop-block.invariant.failed_allocations;
      asked = omega (
        arith,
        c.loop-block.invariant.asked,
        c.in_ok-same_iptc.ensures.asked,
        ap iptc_requests c.in-Some.ensures.steps,
        ap iptc_requests c.in-Some-next.ensures.steps,
      );
    }

pub returns-then-not-branch-clause-same : goal.returns-then-not-branch-clause-same
returns-then-not-branch-clause-same c =
    let f : c.in_ok-same_iptc.field-0 ≡ false = search rules in
    let (m, n, s, u, e) = c.in_ok-same_iptc.ensures.same in
    not_same Record SaysIim _ _ c.loop-block.invariant.same
    (other_pair Record SaysIim one_record c.loop-block.left c.loop-block.others c.next.new.self c.next-in-loop-block.new.self
    c.in-Some.block.now c.in-Some-next.other.now m n c.in-Some.ensures.steps c.in-Some-next.ensures.steps s u
    (λ h. let t = e.1 h in cc))

pub returns-then-not-branch-clause-alike : goal.returns-then-not-branch-clause-alike
returns-then-not-branch-clause-alike c =
    let f : c.in_ok-same_iptc.field-0 ≡ false = search rules in
    let (m, n, s, u, e) = c.in_ok-same_iptc.ensures.same in
    not_same Record SaysIim _ _ c.loop-block.invariant.alike
    (unlike_pair Record SaysIim one_record c.loop-block.left c.loop-block.others c.next.new.self c.next-in-loop-block.new.self
    c.in-Some.block.now c.in-Some-next.other.now m n c.in-Some.ensures.steps c.in-Some-next.ensures.steps s u
    (λ h. let t = e.1 h in cc))
