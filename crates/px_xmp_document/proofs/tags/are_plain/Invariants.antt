use Rattle.std.proofs.Common.{◌≡◌, ◌&&◌, drop}
use Rattle.px_xmp_marks.specs.Declarations.{every}
use Rattle.px_xmp_document.specs.Bindings.{is_plain}
use Rattle.px_xmp_document.proofs.tags.are_plain.Given as goal

abbrev pub invariant-loop-octet : goal.invariant-loop-octet
invariant-loop-octet l = (l.all && every is_plain (drop l.octet-index l.octets)) ≡ every is_plain l.octets
