use Rattle.std.proofs.Common.{◌≡◌, ◌≤◌, ◌-◌, length, take}
use Rattle.std.specs.Io.KnownBytes.{Appends}
use Rattle.px_bytes.proofs.Pieces.{Begun}
use Rattle.px_bytes.proofs.devices.write_whole.Given as goal

-- the writer has taken the first `at` bytes, no call failed, and without a byte none was made; the first call got all of the bytes
abbrev pub invariant-loop-at : goal.invariant-loop-at
invariant-loop-at g l =
    (l.at ≤ length l.bytes)
    × Appends (g.W.Sink.bytes_taken l.initial.writer) (g.W.Sink.bytes_taken l.writer) (take l.at l.bytes)
    × (g.W.Device.calls l.writer ≡ g.W.Device.calls l.initial.writer)
    × (length l.bytes ≡ 0 → l.writer ≡ l.initial.writer)
    × Begun g.W.Sink.wrote l.initial.writer l.writer l.bytes l.at

abbrev pub decreases-loop-at : goal.decreases-loop-at
decreases-loop-at g l = length l.bytes - l.at
