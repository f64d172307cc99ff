use Rattle.std.proofs.Common.{◌≤◌, ℕ, List, length, flat_map, subst, sym, ◌∙◌, ap, arith, rules}
use Rattle.std.proofs.lemmas.List.{take_all}
use Rattle.std.proofs.lemmas.Result.{err_from_is_err_and}
use Rattle.px_bytes.specs.declared.Order.TheVariants.{Most}
use Rattle.px_bytes.specs.Devices.{CanCountFailure}
use Rattle.px_bytes.specs.lemmas.WaitingLaws.{HasPut}
use Rattle.px_meaning.specs.Writable.{Item}
use Rattle.px_layout.specs.calls.Forms.{meaning_in}
use Rattle.px_meaning.specs.Entry.{table_size}
use Rattle.px_layout.specs.Laid.{entry_bytes}
use Rattle.px_layout.specs.Normal.{normal_plan}
use Rattle.px_layout.specs.lemmas.PutLaws.{more_as, stop_as}
use Rattle.px_layout.specs.lemmas.WalkLaws.{few_there}
use Rattle.px_layout.proofs.writing.Beginnings.{values_here}
use Rattle.px_layout.proofs.writing.Runs.{entry_running, values_most, counts_read}
use Rattle.px_layout.proofs.put_running.put_running_entries.Goals as goal

pub table_len-requires : goal.table_len-requires
table_len-requires g c =
    let few = few_there (meaning_in c.args.form.now) c.args.dir c.args.entries.now c.requires.form.0 c.requires.there in
    let n = c.len.ensures in
    omega arith

pub overflow_cast-at : goal.overflow_cast-at
overflow_cast-at g c =
    let few = few_there (meaning_in c.args.form.now) c.args.dir c.args.entries.now c.requires.form.0 c.requires.there in
    let n = c.len.ensures in
    let t = c.table_len.ensures in
    omega arith

pub overflow_add-at : goal.overflow_add-at
overflow_add-at g c =
    let few = few_there (meaning_in c.args.form.now) c.args.dir c.args.entries.now c.requires.form.0 c.requires.there in
    let n = c.len.ensures in
    let t = c.table_len.ensures in
    let k = ap table_size n in
    let s = c.start_of.ensures in
    let v = values_most (meaning_in c.args.form.now) c.args.form.now.starts c.args.dir c.args.entries.now c.requires.form.1 c.requires.form.0
    c.requires.there in
    omega arith

pub put_given_entry-requires-clause-counts_all : goal.put_given_entry-requires-clause-counts_all
put_given_entry-requires-clause-counts_all g c =
    counts_read (meaning_in c.args.form.now) c.args.dir c.args.entries.now c.loop-i.i _ c.requires.there c.at-entry.ensures.entry

pub returns-in_err-put_given_entry : goal.returns-in_err-put_given_entry
returns-in_err-put_given_entry g c =
    let p = err_from_is_err_and c.from_residual.result c.from_residual.ensures.1 in
    rw p.1 (
      stop_as g.W.Sink.bytes_taken (entry_bytes (normal_plan (meaning_in c.args.form.now)) Most 0 c.args.dir) c.args.entries.now
          c.loop-i.i _ c.at-entry.ensures.entry _
          (entry_running (meaning_in c.args.form.now) c.args.dir c.args.entries.now c.loop-i.i c.loop-i.at _ c.requires.form.0 c.requires.there
          c.at-entry.ensures.entry c.loop-i.invariant.left)
          _ _ _ c.args.pending.now c.loop-i.pending c.loop-i.invariant.put c.in_err-put_given_entry.ensures.0,
      search rules,
    )

pub next_at-at-requires-clause-most : goal.next_at-at-requires-clause-most
next_at-at-requires-clause-most g c =
    let h = values_here c.args.entries.now c.loop-i.i _ c.at-entry.ensures.entry in
    let l = c.loop-i.invariant.left in
    let v = values_most (meaning_in c.args.form.now) c.args.form.now.starts c.args.dir c.args.entries.now c.requires.form.1 c.requires.form.0
    c.requires.there in
    omega arith

pub loop-i-preserved : goal.loop-i-preserved
loop-i-preserved g c = record {
  put = more_as g.W.Sink.bytes_taken (entry_bytes (normal_plan (meaning_in c.args.form.now)) Most 0 c.args.dir) c.args.entries.now c.loop-i.i
      _ c.at-entry.ensures.entry _
      (entry_running (meaning_in c.args.form.now) c.args.dir c.args.entries.now c.loop-i.i c.loop-i.at _ c.requires.form.0 c.requires.there
      c.at-entry.ensures.entry c.loop-i.invariant.left)
      _ _ _ c.args.pending.now c.loop-i.pending c.put_given_entry.new.pending c.loop-i.invariant.put c.in_ok-put_given_entry.ensures.0;
  count = c.in_ok-put_given_entry.ensures.1 ∙ c.loop-i.invariant.count;
  left = (let h = values_here c.args.entries.now c.loop-i.i _ c.at-entry.ensures.entry in let l = c.loop-i.invariant.left in
      let n = c.next_at-at.ensures in omega arith);
}

pub put_given_entry-requires-clause-few : goal.put_given_entry-requires-clause-few
put_given_entry-requires-clause-few g c = subst CanCountFailure (sym c.loop-i.invariant.count) c.requires.few

pub returns : goal.returns
returns g c =
    let n = c.len-i-end.ensures in
    let t = c.loop-i-test.false in
    let l : length c.args.entries.now ≤ c.loop-i.i = omega arith in (
      subst (λ (xs : List (ℕ × Item)). HasPut g.W.Sink.bytes_taken c.args.writer.now c.loop-i.writer c.args.pending.now c.loop-i.pending
          (flat_map (entry_bytes (normal_plan (meaning_in c.args.form.now)) Most 0 c.args.dir) xs))
          (take_all c.loop-i.i c.args.entries.now l) c.loop-i.invariant.put,
      c.loop-i.invariant.count,
    )
