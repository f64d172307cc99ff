use Rattle.std.proofs.Common.{◌≡◌, ◌*◌, take, flat_map}
use Rattle.px_bytes.specs.Parts.{pieces}
use Rattle.px_field.specs.declared.turning.Width.TheVariants.{Two}
use Rattle.px_field.specs.calls.Turning.{turned}
use Rattle.px_field.proofs.turning.turn_two.Given as goal

-- the first elements are written
abbrev pub invariant-loop-i : goal.invariant-loop-i
invariant-loop-i l = take (l.i * 2) l.to ≡ flat_map (turned Two l.read l.write) (pieces l.i 2 l.from)
