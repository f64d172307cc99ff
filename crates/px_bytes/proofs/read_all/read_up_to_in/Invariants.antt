use Rattle.std.proofs.Common.{◌≡◌, ◌≤◌, ◌-◌, min, vec_len, vec_capacity}
use Rattle.std.specs.Io.KnownBytes.{Consumes}
use Rattle.px_bytes.specs.calls.Reading.{HasRead}
use Rattle.px_bytes.proofs.read_all.read_up_to_in.Given as goal

-- the bytes so far are those that the reader returned, and no call failed
abbrev pub invariant-loop-all : goal.invariant-loop-all
invariant-loop-all g l = record {
  given : Consumes (g.R.Source.bytes_left l.initial.reader) (g.R.Source.bytes_left l.reader) l.all.items;
  in_range : vec_len l.all ≤ l.most;
  buffer : vec_len l.buffer ≡ min l.most 65536;
  count : g.R.Device.calls l.reader ≡ g.R.Device.calls l.initial.reader;
  memory : l.memory.failed_allocations ≡ l.initial.memory.failed_allocations;
  asked : HasRead l.most l.initial.memory.asked (vec_len l.all) (vec_capacity l.all) l.memory.asked;
}

abbrev pub decreases-loop-all : goal.decreases-loop-all
decreases-loop-all g l = l.most - vec_len l.all
