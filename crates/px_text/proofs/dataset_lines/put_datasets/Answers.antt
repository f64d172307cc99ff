use Rattle.std.proofs.Common.{[], ◌∙◌, refl, ap, subst, rules}
use Rattle.std.proofs.KnownBytes.{Appends-nil}
use Rattle.std.proofs.lemmas.Result.{err_from_is_err_and}
use Rattle.px_bytes.specs.Waiting.{◌⊕◌, Owes}
use Rattle.px_iim.specs.Group.{Record}
use Rattle.px_iim.specs.calls.View.{part_view}
use Rattle.px_text.specs.Listing.{group_lines, dataset_lines}
use Rattle.px_text.proofs.Chains.{walk_next, walk_stop, walk_done}
use Rattle.px_text.proofs.dataset_lines.put_datasets.Goals as goal

pub loop-rec-init : goal.loop-rec-init
loop-rec-init g c =
    let all = c.into_iter-rec-iterator.ensures.into_iter_gives ∙ c.iter-rec-items.ensures.all in
    record {
      owes = (
        c.args.pending.now,
        ([], Appends-nil (g.W.Sink.bytes_taken c.args.writer.now), refl),
        ap (λ (i : Record).
            c.args.pending.now ⊕ dataset_lines i) all,
      );
      count = refl;
    }

pub returns-in_err-put_group : goal.returns-in_err-put_group
returns-in_err-put_group g c =
    let p = err_from_is_err_and c.from_residual.result c.from_residual.ensures.1 in
    let o = c.loop-rec.invariant.owes in
    rw p.1 (
      walk_stop group_lines c.loop-rec.rec-iterator c.next.new.self (part_view (
        c.in-Some.rec,
        c.in-Some.field-0-1,
        c.in-Some.items,
      )) c.in-Some.ensures.steps _ _ _ _ c.loop-rec.pending o.0 o.1 o.2 c.in_err-put_group.ensures.0,
      search rules,
    )

pub loop-rec-preserved : goal.loop-rec-preserved
loop-rec-preserved g c =
    let x = part_view (c.in-Some.rec, c.in-Some.field-0-1, c.in-Some.items) in
    let o = c.loop-rec.invariant.owes in
    record {
      owes = walk_next group_lines c.loop-rec.rec-iterator c.next.new.self x c.in-Some.ensures.steps _ _ _ _ c.loop-rec.pending
          c.put_group.new.pending o.0 o.1 o.2 c.in_ok-put_group.ensures.0;
      count = c.in_ok-put_group.ensures.1 ∙ c.loop-rec.invariant.count;
    }

pub returns : goal.returns
returns g c =
    let o = c.loop-rec.invariant.owes in (
      subst (Owes (g.W.Sink.bytes_taken c.args.writer.now) (g.W.Sink.bytes_taken c.loop-rec.writer) c.loop-rec.pending) (walk_done
          group_lines c.loop-rec.rec-iterator o.0 _ c.in-None.ensures.steps.0 o.2) o.1,
      search rules,
    )
