use Rattle.std.proofs.Common.{◌≡◌, ◌+◌, sym, subst, arith}
use Rattle.px_layout.specs.calls.Items.{item_of, rank}
use Rattle.px_layout.specs.calls.Layers.{with_extra}
use Rattle.px_layout.proofs.plans.EntryLists.{rank_put, rank_kept}
use Rattle.px_layout.proofs.entries.adds.Goals as goal

pub returns-then-extra-tag-clause-added : goal.returns-then-extra-tag-clause-added
returns-then-extra-tag-clause-added c = λ xs.
    subst (λ o. rank c.args.tag (with_extra o xs) ≡ rank c.args.tag xs + 1) (sym c.in-Some.is)
    (rank_put c.args.tag c.in-Some.extra.tag (item_of c.in-Some.extra.item) xs c.if-extra-tag.true)

pub returns-clause-added : goal.returns-clause-added
returns-clause-added c = λ xs.
    subst (λ o. rank c.args.tag (with_extra o xs) ≡ rank c.args.tag xs + 0) (sym c.in-Some.is)
    (rank_kept c.args.tag c.in-Some.extra.tag (item_of c.in-Some.extra.item) xs (let l = c.if-extra-tag.false in omega arith))
