use Rattle.std.proofs.Common.{◌≡◌, true, false, sym, ap, ◌∙◌, subst, arith, rules}
use Rattle.px_meaning.specs.Tree.{Meaning}
use Rattle.px_meaning.specs.Says.{SaysExif}
use Rattle.px_pictures.specs.Asking.{exif_requests}
use Rattle.px_pictures.proofs.PairLaws.{mean_first, same_pair, alike_pair, unlike_pair, not_same}
use Rattle.px_pictures.proofs.compared.same_exif_blocks.Goals as goal

pub loop-block-preserved : goal.loop-block-preserved
loop-block-preserved c =
    let t : c.in_ok-same_exif.field-0 ≡ true = search rules in
    let (m, n, s, u, e) = c.in_ok-same_exif.ensures.same in
    let pair = same_pair Meaning SaysExif c.loop-block.left c.loop-block.others c.next.new.self c.next-in-loop-block.new.self
    c.in-Some.block.now
    c.in-Some-next.other.now m c.in-Some.ensures.steps c.in-Some-next.ensures.steps s
    (subst (λ (k : Meaning). SaysExif c.in-Some-next.other.now k) (sym (e.0 t)) u) in
    let like = alike_pair Meaning SaysExif c.loop-block.left c.loop-block.others c.next.new.self c.next-in-loop-block.new.self
    c.in-Some.block.now
    c.in-Some-next.other.now m c.in-Some.ensures.steps c.in-Some-next.ensures.steps s
    (subst (λ (k : Meaning). SaysExif c.in-Some-next.other.now k) (sym (e.0 t)) u) in
    record {
      same = (λ h. c.loop-block.invariant.same.0 (pair.1 h), λ h. pair.0 (c.loop-block.invariant.same.1 h));
      alike = (λ h. c.loop-block.invariant.alike.0 (like.1 h), λ h. like.0 (c.loop-block.invariant.alike.1 h));
      left_has_meaning = (mean_first Meaning SaysExif c.loop-block.left c.next.new.self c.in-Some.block.now c.in-Some.ensures.steps
          c.loop-block.invariant.left_has_meaning).1;
      others_has_meaning = (mean_first Meaning SaysExif c.loop-block.others c.next-in-loop-block.new.self c.in-Some-next.other.now
          c.in-Some-next.ensures.steps c.loop-block.invariant.others_has_meaning).1;
      failed_allocations = c.in_ok-same_exif.ensures.memory ∙ c.loop-block.invariant.failed_allocations;
      asked = omega (
        arith,
        c.loop-block.invariant.asked,
        c.in_ok-same_exif.ensures.asked,
        ap exif_requests c.in-Some.ensures.steps,
        ap exif_requests c.in-Some-next.ensures.steps,
      );
    }

pub returns-then-not-branch-clause-alike : goal.returns-then-not-branch-clause-alike
returns-then-not-branch-clause-alike c =
    let f : c.in_ok-same_exif.field-0 ≡ false = search rules in
    let (m, n, s, u, e) = c.in_ok-same_exif.ensures.same in
    not_same Meaning SaysExif _ _ c.loop-block.invariant.alike
    (unlike_pair Meaning SaysExif c.one_meaning.ensures c.loop-block.left c.loop-block.others c.next.new.self c.next-in-loop-block.new.self
    c.in-Some.block.now c.in-Some-next.other.now m n c.in-Some.ensures.steps c.in-Some-next.ensures.steps s u
    (λ h. let t = e.1 h in cc))
