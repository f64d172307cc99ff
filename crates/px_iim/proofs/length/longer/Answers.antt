use Rattle.std.proofs.Common.{◌+◌, ℕ, length, sym, ap, ◌∙◌, arith}
use Rattle.px_iim.specs.Record.{normal_dataset}
use Rattle.px_iim.specs.calls.View.{item_view}
use Rattle.px_iim.specs.Writing.{within}
use Rattle.px_iim.proofs.writing.Writes.{some_within, none_more}
use Rattle.px_iim.proofs.length.longer.Goals as goal

pub with_item-requires-clause-counted : goal.with_item-requires-clause-counted
with_item-requires-clause-counted c = rw c.in-Some.is at c.requires.counted

pub returns-in-Some : goal.returns-in-Some
returns-in-Some c = λ n e.
    let same = some_within c.in-Some.total n (sym c.in-Some.is ∙ e) in
    c.with_item.ensures ∙ ap (λ (k : ℕ). within (k + length (normal_dataset 0 (item_view c.args.item.now)))) same.0

pub returns-in-None : goal.returns-in-None
returns-in-None c = λ n e. none_more n _ (sym c.in-None.is ∙ e) (omega arith)
