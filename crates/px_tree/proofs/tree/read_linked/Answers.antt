use Rattle.std.proofs.Common.{◌++◌, List, Some, sym, ap, subst, ◌∙◌}
use Rattle.std.proofs.lemmas.Result.{err_from_is_err_and}
use Rattle.px_bytes.specs.Range.{Range, Agrees}
use Rattle.px_bytes.specs.Checks.{first_false, Refuses}
use Rattle.px_meaning.specs.Tree.{Fields}
use Rattle.px_tree.specs.calls.Linked.{Names, offsets_of}
use Rattle.px_tree.proofs.reading.Named.{some_checks, some_ranges, some_fields}
use Rattle.px_tree.proofs.tree.read_linked.Goals as goal

pub returns-in_err-directory-in-Some-clause-judged : goal.returns-in_err-directory-in-Some-clause-judged
returns-in_err-directory-in-Some-clause-judged c = λ taken a.
    let p = err_from_is_err_and c.from_residual.result c.from_residual.ensures.1 in
    let b = c.args.source.now.block.now in
    let o = c.args.source.now.order in
    let d = c.args.source.now.dir in
    let n = subst (Names b o d) c.in-Some.is c.requires.named in
    let r = c.in_err-directory-in-Some.field-0.0 in
    rw (p.1, p.2) (subst (Refuses r) (sym (some_checks b o d c.in-Some.link n (offsets_of c.args.earlier.now) taken))
    (c.in_err-directory-in-Some.ensures.judged taken a))

pub returns-in_ok-directory-in-Some-clause-judged : goal.returns-in_ok-directory-in-Some-clause-judged
returns-in_ok-directory-in-Some-clause-judged c = λ taken a.
    let b = c.args.source.now.block.now in
    let o = c.args.source.now.order in
    let d = c.args.source.now.dir in
    let n = subst (Names b o d) c.in-Some.is c.requires.named in
    let j = c.in_ok-directory-in-Some.ensures.judged taken a in (
      ap first_false (some_checks b o d c.in-Some.link n (offsets_of c.args.earlier.now) taken) ∙ j.0,
      (
        λ keeps. ap (λ (x : Fields). Some x) (j.1.0 keeps) ∙ sym (some_fields b o d c.in-Some.link n),
        subst (λ (rs : List Range). Agrees (rs ++ taken) c.read_directory.new.claimed.ranges) (sym (some_ranges b o d c.in-Some.link n)) j.1.1,
      ),
    )
