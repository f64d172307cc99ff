use Rattle.std.proofs.Common.{[], ◌∙◌, refl, sym, ap, subst, rules}
use Rattle.std.specs.List.{AllByRecursion}
use Rattle.std.proofs.lemmas.Result.{err_from_is_err_and}
use Rattle.px_bytes.specs.lemmas.WaitingLaws.{HasPut, put_none}
use Rattle.px_iim.specs.Group.{IsGroup}
use Rattle.px_iim.specs.Record.{normal_iim}
use Rattle.px_iim.specs.calls.View.{part_view}
use Rattle.px_iim.proofs.writing.Writes.{short_next, whole_next, put_next, put_failed, rest_none}
use Rattle.px_iim.proofs.write.put_iim.Goals as goal

pub loop-rec-init : goal.loop-rec-init
loop-rec-init g c =
    let all = c.into_iter-rec-iterator.ensures.into_iter_gives ∙ c.iter-rec-items.ensures.all in
    record {
      whole = subst (AllByRecursion IsGroup) (sym all) c.iter-rec-items.ensures.whole.groups;
      put = ([], put_none g.W.Sink.bytes_taken c.args.writer.now c.args.pending.now, ap normal_iim all);
      count = refl;
    }

pub put_group-requires-clause-short : goal.put_group-requires-clause-short
put_group-requires-clause-short g c =
    short_next c.loop-rec.rec-iterator c.next.new.self (part_view (c.in-Some.rec, c.in-Some.field-0-1, c.in-Some.items))
    c.in-Some.ensures.steps [] c.loop-rec.invariant.whole

pub returns-in_err-put_group-clause-bytes : goal.returns-in_err-put_group-clause-bytes
returns-in_err-put_group-clause-bytes g c =
    let p = err_from_is_err_and c.from_residual.result c.from_residual.ensures.1 in
    let o = c.loop-rec.invariant.put in
    let failed =
    put_failed c.loop-rec.rec-iterator c.next.new.self (part_view (c.in-Some.rec, c.in-Some.field-0-1, c.in-Some.items))
    c.in-Some.ensures.steps _
    g.W.Sink.bytes_taken _ _ _ c.args.pending.now c.loop-rec.pending o.0 o.1 o.2 c.in_err-put_group.ensures.0 in
    rw p.1 (failed.0, search rules)

pub returns-in_err-put_group-clause-waits : goal.returns-in_err-put_group-clause-waits
returns-in_err-put_group-clause-waits g c =
    let p = err_from_is_err_and c.from_residual.result c.from_residual.ensures.1 in
    let o = c.loop-rec.invariant.put in
    let failed =
    put_failed c.loop-rec.rec-iterator c.next.new.self (part_view (c.in-Some.rec, c.in-Some.field-0-1, c.in-Some.items))
    c.in-Some.ensures.steps _
    g.W.Sink.bytes_taken _ _ _ c.args.pending.now c.loop-rec.pending o.0 o.1 o.2 c.in_err-put_group.ensures.0 in
    rw p.1 failed.1

pub loop-rec-preserved : goal.loop-rec-preserved
loop-rec-preserved g c =
    let x = part_view (c.in-Some.rec, c.in-Some.field-0-1, c.in-Some.items) in
    let o = c.loop-rec.invariant.put in
    record {
      whole = whole_next c.loop-rec.rec-iterator c.next.new.self x c.in-Some.ensures.steps [] c.loop-rec.invariant.whole;
      put = put_next c.loop-rec.rec-iterator c.next.new.self x c.in-Some.ensures.steps _
          g.W.Sink.bytes_taken _ _ _ c.args.pending.now c.loop-rec.pending c.put_group.new.pending o.0 o.1 o.2
          c.in_ok-put_group.ensures.0;
      count = c.in_ok-put_group.ensures.1 ∙ c.loop-rec.invariant.count;
    }

pub returns-clause-bytes : goal.returns-clause-bytes
returns-clause-bytes g c =
    let o = c.loop-rec.invariant.put in (
      (subst (HasPut g.W.Sink.bytes_taken c.args.writer.now c.loop-rec.writer c.args.pending.now c.loop-rec.pending)
          (rest_none c.loop-rec.rec-iterator o.0 _ c.in-None.ensures.steps.0 o.2) o.1).0,
      search rules,
    )

pub returns-clause-waits : goal.returns-clause-waits
returns-clause-waits g c =
    let o = c.loop-rec.invariant.put in
    (subst (HasPut g.W.Sink.bytes_taken c.args.writer.now c.loop-rec.writer c.args.pending.now c.loop-rec.pending)
    (rest_none c.loop-rec.rec-iterator o.0 _ c.in-None.ensures.steps.0 o.2) o.1).1
