use Rattle.std.proofs.Common.{◌+◌, ◌∷◌, None, sym, ap, subst, ◌∙◌}
use Rattle.std.proofs.lemmas.Result.{err_from_is_err_and}
use Rattle.px_bytes.specs.Range.{range}
use Rattle.px_bytes.specs.Checks.{first_false, Refuses}
use Rattle.px_bytes.specs.lemmas.CheckLaws.{Refuses_more, Refuses_after, all_true}
use Rattle.px_meaning.specs.Entry.{table_size}
use Rattle.px_meaning.specs.Directory.{entries_at}
use Rattle.px_meaning.specs.Footprint.{table_range}
use Rattle.px_tree.specs.Checks.{opening_checks, entries_checks}
use Rattle.px_tree.specs.calls.Linked.{offsets_of}
use Rattle.px_tree.proofs.reading.Faulted.{entries_checks_is, fields_is, ranges_is, uses_is, dir_checks_parts}
use Rattle.std.proofs.Common.{arith}
use Rattle.px_tree.proofs.tables.read_directory.Goals as goal

pub returns-in_err-count-clause-judged : goal.returns-in_err-count-clause-judged
returns-in_err-count-clause-judged c = λ taken a.
    let p = err_from_is_err_and c.from_residual.result c.from_residual.ensures.1 in
    let b = c.args.source.now.block.now in
    let o = c.args.source.now.order in
    let d = c.args.source.now.dir in
    let es = offsets_of c.args.earlier.now in
    let l = c.args.link in
    let r = c.in_err-count.field-0.0 in
    rw (p.1, p.2) (subst (Refuses r) (sym (dir_checks_parts b o d es taken l.place l.at))
    (Refuses_more r (opening_checks b o es taken l.place l.at) _ (c.in_err-count.ensures.judged taken a)))

pub returns-in_err-entries-clause-judged : goal.returns-in_err-entries-clause-judged
returns-in_err-entries-clause-judged c = λ taken a.
    let p = err_from_is_err_and c.from_residual-in_err-entries.result c.from_residual-in_err-entries.ensures.1 in
    let b = c.args.source.now.block.now in
    let o = c.args.source.now.order in
    let d = c.args.source.now.dir in
    let es = offsets_of c.args.earlier.now in
    let l = c.args.link in
    let n = c.in_ok-count.count in
    let t = c.in_ok-count.ensures.there in
    let k = c.in_ok-count.ensures.judged taken a in
    let r = c.in_err-entries.field-0.0 in
    rw (p.1, p.2) (subst (Refuses r) (sym (dir_checks_parts b o d es taken l.place l.at))
    (Refuses_after r (opening_checks b o es taken l.place l.at) _ k.0
    (subst (Refuses r) (sym (entries_checks_is b o l.at n t d taken))
    (c.in_err-entries.ensures.judged (range l.at (table_size n) ∷ taken) k.1))))

pub returns-clause-judged : goal.returns-clause-judged
returns-clause-judged c = λ taken a.
    let b = c.args.source.now.block.now in
    let o = c.args.source.now.order in
    let d = c.args.source.now.dir in
    let es = offsets_of c.args.earlier.now in
    let l = c.args.link in
    let n = c.in_ok-count.count in
    let t = c.in_ok-count.ensures.there in
    let k = c.in_ok-count.ensures.judged taken a in
    let j = c.in_ok-entries.ensures.judged (range l.at (table_size n) ∷ taken) k.1 in (
      ap first_false (dir_checks_parts b o d es taken l.place l.at)
          ∙ all_true (opening_checks b o es taken l.place l.at) (entries_checks b o d (table_range b o l.at ∷ taken) (l.at + 2)
          None (entries_at b o l.at)) k.0 (ap first_false (entries_checks_is b o l.at n t d taken) ∙ j.0),
      (
        λ keeps. j.1.0 keeps ∙ sym (fields_is b o l.at n t d),
        ranges_is b o l.at n t taken _ j.1.1,
      ),
    )

pub returns-clause-uses : goal.returns-clause-uses
returns-clause-uses c =
    let l = c.args.link in
    uses_is c.args.source.now.block.now c.args.source.now.order l.at c.in_ok-count.count c.in_ok-count.ensures.there _
    c.in_ok-entries.ensures.uses

pub returns-in_err-entries-clause-asked : goal.returns-in_err-entries-clause-asked
returns-in_err-entries-clause-asked c =
    let table = c.in_ok-count.ensures.table in
    let asked = c.in_err-entries.ensures.asked in
    omega arith

pub returns-clause-asked : goal.returns-clause-asked
returns-clause-asked c =
    let table = c.in_ok-count.ensures.table in
    let asked = c.in_ok-entries.ensures.asked in
    omega arith
