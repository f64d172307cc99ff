use Rattle.std.proofs.Common.{◌≡◌, take, flat_map}
use Rattle.px_bytes.specs.lemmas.WaitingLaws.{HasPut}
use Rattle.px_meaning.specs.Directory.{dirs}
use Rattle.px_layout.specs.calls.Forms.{meaning_in}
use Rattle.px_layout.specs.Normal.{normal_plan}
use Rattle.px_layout.specs.lemmas.EntryBytes.{dir_bytes}
use Rattle.px_layout.proofs.put_form.put_dirs.Given as goal

-- the directories so far were put, and no call failed
abbrev pub invariant-loop-dir : goal.invariant-loop-dir
invariant-loop-dir g l = record {
  put : HasPut g.W.Sink.bytes_taken l.initial.writer l.writer l.initial.pending l.pending
      (flat_map (dir_bytes (normal_plan (meaning_in l.form)) (meaning_in l.form)) (take l.dir-index dirs));
  count : g.W.Device.calls l.writer ≡ g.W.Device.calls l.initial.writer;
}
