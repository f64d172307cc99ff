use Rattle.std.proofs.Common.{◌≡◌, drop}
use Rattle.px_xmp_lines.specs.Lines.{begins_mark}
use Rattle.px_xmp_lines.proofs.packets.begins_mark.Given as goal

abbrev pub invariant-loop-octet : goal.invariant-loop-octet
invariant-loop-octet l = begins_mark (drop l.octet-index l.file) ≡ begins_mark l.file
