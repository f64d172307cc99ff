use Rattle.std.proofs.Common.{◌++◌, Option, sym, ◌∙◌, ap, subst, option_to_list}
use Rattle.std.proofs.lemmas.Result.{err_from_is_err_and}
use Rattle.px_bytes.specs.Parts.{part}
use Rattle.px_field.specs.Forms.{form_of}
use Rattle.px_meaning.specs.Roles.{role}
use Rattle.px_tree.specs.declared.entries.Head.{Head}
use Rattle.px_meaning.specs.Entry.{entry}
use Rattle.px_bytes.specs.Range.{Range, Agrees}
use Rattle.px_tree.specs.calls.Reading.{Shows}
use Rattle.px_tree.proofs.reading.Shapes.{shape_refuses, value_refuses, entry_true, range_same}
use Rattle.px_tree.proofs.entries.judge_entry.Goals as goal

pub returns-in_err-shape-clause-judged : goal.returns-in_err-shape-clause-judged
returns-in_err-shape-clause-judged c = λ taken a.
    let p = err_from_is_err_and c.from_residual.result c.from_residual.ensures.1 in
    rw (p.1, p.2) (shape_refuses _ c.args.source.now.order c.args.source.now.dir taken c.args.at c.args.before c.head_at-head.result _
    c.head_at-head.ensures _ c.in_err-shape.ensures.judged)

pub returns-in_err-claim_value-clause-judged : goal.returns-in_err-claim_value-clause-judged
returns-in_err-claim_value-clause-judged c = λ taken a.
    let p = err_from_is_err_and c.from_residual-in_err-claim_value.result c.from_residual-in_err-claim_value.ensures.1 in
    let k = c.in_ok-shape.ensures.judged in
    rw (p.1, p.2) (value_refuses c.args.source.now.block.now c.args.source.now.order c.args.source.now.dir taken c.args.at c.args.before
    c.head_at-head.result _ c.head_at-head.ensures c.in_ok-shape.shape k.1.0 k.1.1 k.0 _ (c.in_err-claim_value.ensures.judged taken a))

pub returns-clause-judged : goal.returns-clause-judged
returns-clause-judged c = λ taken a.
    let b = c.args.source.now.block.now in
    let o = c.args.source.now.order in
    let d = c.args.source.now.dir in
    let e = entry o (part b c.args.at 12) in
    let h = c.head_at-head.result in
    let shows = c.head_at-head.ensures in
    let s = c.in_ok-shape.shape in
    let k = c.in_ok-shape.ensures.judged in
    let j = c.in_ok-claim_value.ensures.judged taken a in (
      entry_true b o d taken c.args.at c.args.before h e shows s k.1.0 k.1.1 k.0 j.0,
      subst (λ (r : Option Range). Agrees (option_to_list r ++ taken) c.claim_value.new.claimed.ranges)
          (range_same b o d taken c.args.at c.args.before h e shows s k.1.0 k.1.1 k.0) j.1,
    )

pub returns-clause-shape : goal.returns-clause-shape
returns-clause-shape c =
    let e = entry c.args.source.now.order (part c.args.source.now.block.now c.args.at 12) in
    let shows = c.head_at-head.ensures in
    record {
      head = subst (λ (x : Head). Shows c.args.source.now.order x e) (sym c.in_ok-shape.ensures.judged.1.0) shows;
      form = ap form_of (sym shows.code) ∙ c.in_ok-shape.ensures.judged.1.1;
      role_is = c.in_ok-shape.ensures.judged.1.2 ∙ ap (role c.args.source.now.dir) shows.tag;
    }
