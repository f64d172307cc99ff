use Rattle.std.proofs.Common.{refl, subst, sym, ◌∙◌, arith, rules}
use Rattle.std.proofs.lemmas.Option.{slice_get-get_or}
use Rattle.std.proofs.lemmas.Grind.{common_steps}
use Rattle.std.proofs.lemmas.Result.{err_from_is_err_and}
use Rattle.px_bytes.specs.lemmas.WaitingLaws.{put_none, loop_more, loop_stop}
use Rattle.px_bytes.specs.Devices.{CanCountFailure}
use Rattle.px_meaning.specs.Directory.{dirs}
use Rattle.px_layout.specs.calls.Forms.{meaning_in}
use Rattle.px_layout.specs.Normal.{normal_plan}
use Rattle.px_layout.specs.lemmas.PutLaws.{fails_as}
use Rattle.px_layout.specs.lemmas.EntryBytes.{dir_bytes, dirs_as}
use Rattle.px_layout.proofs.put_form.put_dirs.Goals as goal

pub returns-in_err-put_any_dir : goal.returns-in_err-put_any_dir
returns-in_err-put_any_dir g c =
    let p = err_from_is_err_and c.from_residual.result c.from_residual.ensures.1 in
    rw p.1 (
      fails_as g.W.Sink.bytes_taken _ _ c.args.pending.now _ _ (dirs_as (normal_plan (meaning_in c.args.form.now))
          (meaning_in c.args.form.now))
          (loop_stop g.W.Sink.bytes_taken (dir_bytes (normal_plan (meaning_in c.args.form.now)) (meaning_in c.args.form.now)) dirs
          c.loop-dir.dir-index
          _ (slice_get-get_or dirs c.loop-dir.dir-index _ c.loop-dir-test.true)
          _ _ _ c.args.pending.now c.loop-dir.pending c.loop-dir.invariant.put c.in_err-put_any_dir.ensures.0),
      search rules,
    )

pub loop-dir-preserved : goal.loop-dir-preserved
loop-dir-preserved g c = record {
  put = loop_more g.W.Sink.bytes_taken (dir_bytes (normal_plan (meaning_in c.args.form.now)) (meaning_in c.args.form.now)) dirs
      c.loop-dir.dir-index _ (slice_get-get_or dirs c.loop-dir.dir-index _ c.loop-dir-test.true)
      _ _ _ c.args.pending.now c.loop-dir.pending c.put_any_dir.new.pending c.loop-dir.invariant.put c.in_ok-put_any_dir.ensures.0;
  count = c.in_ok-put_any_dir.ensures.1 ∙ c.loop-dir.invariant.count;
}

pub loop-dir-init : goal.loop-dir-init
loop-dir-init g c = record { put = put_none g.W.Sink.bytes_taken c.args.writer.now c.args.pending.now; count = refl }

pub put_any_dir-requires-clause-few : goal.put_any_dir-requires-clause-few
put_any_dir-requires-clause-few g c = subst CanCountFailure (sym c.loop-dir.invariant.count) c.requires.few

pub returns : goal.returns
returns g c =
    (grind (arith, common_steps), c.loop-dir.invariant.count)
