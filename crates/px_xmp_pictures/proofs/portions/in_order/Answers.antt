use Rattle.std.proofs.Common.{◌+◌, arith}
use Rattle.std.proofs.Math.ListN.{get_or}
use Rattle.std.proofs.lemmas.List.Sorted.{IsPermutation-trans, IsNonDecreasingBy-from_all_adjacent}
use Rattle.px_xmp_pictures.specs.declared.portions.Portion.{Portion}
use Rattle.px_xmp_pictures.proofs.OrderLaws.{first_le}
use Rattle.px_xmp_pictures.proofs.portions.in_order.Goals as goal

pub returns-clause-all : goal.returns-clause-all
returns-clause-all c = IsPermutation-trans _ _ _ c.from.ensures.1 c.into_sorted_vec.ensures.permutation

pub returns-clause-order : goal.returns-clause-order
returns-clause-order c =
    let sorted = c.into_sorted_vec.ensures.sorted c.from.ensures.2 in
    let qs = c.into_sorted_vec.result.items in
    IsNonDecreasingBy-from_all_adjacent (λ (p : Portion). p.offset) qs
    (λ k d h. first_le (get_or qs (k + 1) d).offset (get_or qs k d).offset _ (sorted k d (omega arith) h))
