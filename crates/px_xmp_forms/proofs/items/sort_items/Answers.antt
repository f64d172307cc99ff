use Rattle.std.proofs.lemmas.List.Sorted.{IsPermutation-trans}
use Rattle.px_xmp_forms.proofs.items.sort_items.Goals as goal

pub returns-clause-permutation : goal.returns-clause-permutation
returns-clause-permutation c = IsPermutation-trans _ _ _ c.from.ensures.1 c.into_sorted_vec.ensures.permutation
