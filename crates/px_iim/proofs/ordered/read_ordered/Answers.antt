use Rattle.std.proofs.Common.{◌≡◌, ◌∙◌, List, [], Some, length, sym, ap, subst, refl, arith}
use Rattle.px_iim.specs.DataSet.{DataSet}
use Rattle.px_iim.specs.Group.{Record, gather}
use Rattle.px_iim.specs.Record.{normal_iim}
use Rattle.px_iim.specs.calls.Runs.{runs, InOrder, AreNumbers}
use Rattle.px_iim.specs.Writing.{within}
use Rattle.px_iim.proofs.reading.Runs.{runs_gather}
use Rattle.px_iim.proofs.reading.Gathered.{gathered_means, gathered_whole}
use Rattle.px_iim.proofs.ordered.read_ordered.Goals as goal

-- what the DataSets gather, as they came
gathered : (ds items : List DataSet) → InOrder ds → AreNumbers ds → items ≡ ds → gather [] ds ≡ runs items
gathered ds items order numbers made = runs_gather ds ds order numbers (λ rec n. refl) ∙ ap runs (sym made)

pub put_all-form_len-requires-clause-meaning : goal.put_all-form_len-requires-clause-meaning
put_all-form_len-requires-clause-meaning c =
    let (ds, s, n, o, w) = c.requires.meaning in
    (ds, s, omega (arith, n, c.in_ok-reserve_for.ensures.space))

pub of_items-requires-clause-order : goal.of_items-requires-clause-order
of_items-requires-clause-order c =
    let (ds, s, n, o, w) = c.requires.meaning in
    subst InOrder (sym (c.put_all-form_len.ensures.items ds s)) o

pub of_items-requires-clause-numbers : goal.of_items-requires-clause-numbers
of_items-requires-clause-numbers c =
    let (ds, s, n, o, w) = c.requires.meaning in
    subst AreNumbers (sym (c.put_all-form_len.ensures.items ds s)) w

pub of_items-requires-clause-whole : goal.of_items-requires-clause-whole
of_items-requires-clause-whole c =
    let (ds, s, n, o, w) = c.requires.meaning in
    gathered_whole c.args.bytes.now ds _ c.requires.bounded s (gathered ds _ o w (c.put_all-form_len.ensures.items ds s))
    (λ k. (c.type_inv.bytes k).fits)

pub of_items-requires-clause-counted : goal.of_items-requires-clause-counted
of_items-requires-clause-counted c =
    let (ds, s, n, o, w) = c.requires.meaning in
    c.put_all-form_len.ensures.form ds s
    ∙ ap (λ (i : Record). within (length (normal_iim i)))
    (gathered ds _ o w (c.put_all-form_len.ensures.items ds s))

pub returns-clause-meaning : goal.returns-clause-meaning
returns-clause-meaning c =
    let (ds, s, n, o, w) = c.requires.meaning in
    gathered_means c.args.bytes.now ds _ c.requires.bounded s (gathered ds _ o w (c.put_all-form_len.ensures.items ds s))
    ∙ ap (λ (i : Record). Some i) (sym c.of_items.ensures)
