use Rattle.std.proofs.Common.{◌≡◌, ◌*◌, take, flat_map}
use Rattle.px_bytes.specs.Parts.{pieces}
use Rattle.px_field.specs.declared.turning.Width.TheVariants.{Four}
use Rattle.px_field.specs.calls.Turning.{turned}
use Rattle.px_field.proofs.turning.turn_four.Given as goal

-- the first elements are written
abbrev pub invariant-loop-i : goal.invariant-loop-i
invariant-loop-i l = take (l.i * 4) l.to ≡ flat_map (turned Four l.read l.write) (pieces l.i 4 l.from)
