use Rattle.std.proofs.Common.{◌≡◌, drop}
use Rattle.px_xmp_marks.specs.Declarations.{every, is_encoding_char}
use Rattle.px_xmp_marks.proofs.declarations.are_encoding_chars.Given as goal

abbrev pub invariant-loop-octet : goal.invariant-loop-octet
invariant-loop-octet l = every is_encoding_char (drop l.octet-index l.octets) ≡ every is_encoding_char l.octets
