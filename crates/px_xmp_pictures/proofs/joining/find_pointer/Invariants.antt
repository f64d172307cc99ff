use Rattle.std.proofs.Common.{◌≡◌, ◌++◌, take, drop}
use Rattle.px_xmp_pictures.specs.Joined.{label, before_part}
use Rattle.px_xmp_pictures.proofs.joining.find_pointer.Given as goal

abbrev pub invariant-loop-n : goal.invariant-loop-n
invariant-loop-n l = take l.n l.form ++ before_part label (drop l.n l.form) ≡ before_part label l.form
