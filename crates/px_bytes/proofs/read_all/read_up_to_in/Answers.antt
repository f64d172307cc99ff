use Rattle.std.proofs.Common.{ℕ, List, length, subst, sym, ap, ◌∙◌, arith, rules}
use Rattle.std.proofs.lemmas.List.{length-take, length-append}
use Rattle.std.proofs.KnownBytes.{Consumes-trans}
use Rattle.std.specs.Io.KnownBytes.{Consumes}
use Rattle.std.proofs.lemmas.Result.{err_from_is_err_and}
use Rattle.px_bytes.specs.Allocations.{MemoryCounts}
use Rattle.px_bytes.proofs.Growth.{made_once}
use Rattle.px_bytes.proofs.Lost.{lost_after, returned_readable}
use Rattle.px_bytes.proofs.read_all.read_up_to_in.Goals as goal
use Rattle.px_bytes.proofs.read_all.read_up_to_in.Goals.{else-loop-all-test, then-loop-all-test+in_ok-append_some+then-not-branch}

pub returns-in_err-append_some-clause-lost : goal.returns-in_err-append_some-clause-lost
returns-in_err-append_some-clause-lost g c =
    let p = err_from_is_err_and c.from_residual-in_err-append_some.result c.from_residual-in_err-append_some.ensures.1 in
    rw p.1 (lost_after _ _ _ c.loop-all.all.items _ c.args.most c.loop-all.invariant.given c.in_err-append_some.ensures.lost
    (omega (arith, length-take {A = ℕ})))

pub returns-in_err-append_some-clause-asked : goal.returns-in_err-append_some-clause-asked
returns-in_err-append_some-clause-asked g c =
    let all = c.loop-all.all.ok.0 in
    let few = returned_readable _ _ c.loop-all.all.items c.args.most c.loop-all.invariant.given
    (omega (arith, c.loop-all.invariant.in_range)) in
    let chunk = c.min.ensures in
    let first = made_once _ _ _ _ c.in_ok-resize.ensures.fits c.in_ok-resize.ensures.asked in
    let last = c.in_err-append_some.ensures.lacking _ c.loop-all.invariant.asked in
    omega (arith, length-take {A = ℕ}, few, chunk, first, last)

pub loop-all-preserved : goal.loop-all-preserved
loop-all-preserved g c =
    let some = c.in_ok-append_some.ensures.given in
    let had = c.loop-all.all.ok.0 in
    let has = c.append_some.new.all.ok.0 in
    let grown = ap (λ (xs : List ℕ). length xs) some.after ∙ length-append c.loop-all.all.items some.bytes in
    record {
      given = subst (λ (xs : List ℕ).
          Consumes (g.R.Source.bytes_left c.args.reader.now) (g.R.Source.bytes_left c.append_some.new.reader) xs)
          (sym some.after) (Consumes-trans _ _ _ _ _ c.loop-all.invariant.given some.given);
      in_range = omega (arith, length-take {A = ℕ}, some.in_space, c.loop-all.invariant.in_range, grown);
      buffer = search rules;
      count = search rules;
      memory = search rules;
      asked = c.in_ok-append_some.ensures.asked _ c.loop-all.invariant.asked;
    }

pub returns-clause-asked : goal.returns-clause-asked
returns-clause-asked g c =
    let all = c.loop-all.all.ok.0 in
    let few = returned_readable _ _ c.loop-all.all.items c.args.most c.loop-all.invariant.given
    (omega (arith, c.loop-all.invariant.in_range)) in
    let chunk = c.min.ensures in
    let first = made_once _ _ _ _ c.in_ok-resize.ensures.fits c.in_ok-resize.ensures.asked in
    let before = c.loop-all.invariant.asked.bytes in
    elim c.loop-all-test.branch [
      | else-loop-all-test w ↦ let same = ap (λ (t : MemoryCounts). t.asked) w.memory-is in omega (arith, few, chunk, first, before, same)
      | then-loop-all-test+in_ok-append_some+then-not-branch w ↦
          let last = w.append_some.ensures.lacking _ c.loop-all.invariant.asked in
          let same = ap (λ (t : MemoryCounts). t.asked) w.memory-is in
          omega (arith, length-take {A = ℕ}, few, chunk, first, before, last, same)
    ]
