use Rattle.std.proofs.Common.{◌++◌, [], List, ℕ, ◌∙◌, arith, length, refl, sym, ap, subst, append-nil}
use Rattle.std.specs.List.{AllByRecursion}
use Rattle.std.proofs.lemmas.Result.{err_from_is_err_and}
use Rattle.px_iim.specs.Group.{Record, IsGroup}
use Rattle.px_iim.specs.Record.{normal_iim}
use Rattle.px_iim.specs.calls.View.{part_view}
use Rattle.px_iim.proofs.writing.Writes.{short_next, whole_next, grows_next, length_next, grows_stop, rest_none}
use Rattle.px_iim.proofs.write.append_record.Goals as goal

pub loop-rec-init : goal.loop-rec-init
loop-rec-init c =
    let all = c.into_iter-rec-iterator.ensures.into_iter_gives ∙ c.iter-rec-items.ensures.all in
    record {
      whole = subst (AllByRecursion IsGroup) (sym all) c.iter-rec-items.ensures.whole.groups;
      grown = ([], sym (append-nil c.args.out.now.items), ap normal_iim all);
      memory = refl;
      asked = refl;
      space = omega (arith, c.requires, ap (λ (i : Record). length (normal_iim i)) all);
    }

pub append_group-requires-clause-space : goal.append_group-requires-clause-space
append_group-requires-clause-space c =
    let x = part_view (c.in-Some.rec, c.in-Some.field-0-1, c.in-Some.items) in
    omega (
      arith,
      c.loop-rec.invariant.space,
      length_next c.loop-rec.rec-iterator c.next.new.self x c.in-Some.ensures.steps [],
    )

pub append_group-requires-clause-short : goal.append_group-requires-clause-short
append_group-requires-clause-short c =
    short_next c.loop-rec.rec-iterator c.next.new.self (part_view (c.in-Some.rec, c.in-Some.field-0-1, c.in-Some.items))
    c.in-Some.ensures.steps [] c.loop-rec.invariant.whole

pub returns-in_err-append_group-clause-grown : goal.returns-in_err-append_group-clause-grown
returns-in_err-append_group-clause-grown c =
    let p = err_from_is_err_and c.from_residual.result c.from_residual.ensures.1 in
    let o = c.loop-rec.invariant.grown in
    rw p.1 (grows_stop c.args.out.now.items c.loop-rec.out.items c.append_group.new.out.items o.0 o.1 c.in_err-append_group.ensures.grown)

pub loop-rec-preserved : goal.loop-rec-preserved
loop-rec-preserved c =
    let x = part_view (c.in-Some.rec, c.in-Some.field-0-1, c.in-Some.items) in
    let o = c.loop-rec.invariant.grown in
    record {
      whole = whole_next c.loop-rec.rec-iterator c.next.new.self x c.in-Some.ensures.steps [] c.loop-rec.invariant.whole;
      grown = grows_next c.loop-rec.rec-iterator c.next.new.self x c.in-Some.ensures.steps _ c.args.out.now.items c.loop-rec.out.items
          c.append_group.new.out.items o.0 o.1 o.2 c.in_ok-append_group.ensures.grown;
      memory = c.in_ok-append_group.ensures.memory ∙ c.loop-rec.invariant.memory;
      asked = c.in_ok-append_group.ensures.asked ∙ c.loop-rec.invariant.asked;
      space = omega (
        arith,
        c.loop-rec.invariant.space,
        c.in_ok-append_group.ensures.space,
        length_next c.loop-rec.rec-iterator c.next.new.self x c.in-Some.ensures.steps [],
      );
    }

pub returns-clause-grown : goal.returns-clause-grown
returns-clause-grown c =
    let o = c.loop-rec.invariant.grown in
    o.1 ∙ ap (λ (l : List ℕ). c.args.out.now.items ++ l) (rest_none c.loop-rec.rec-iterator o.0 _ c.in-None.ensures.steps.0 o.2)
