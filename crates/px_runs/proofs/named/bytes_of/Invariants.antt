use Rattle.std.proofs.Common.{ℕ, List, Option, drop}
use Rattle.px_runs.specs.Named.{HasFile}
use Rattle.px_runs.proofs.named.bytes_of.Given as goal

abbrev pub invariant-loop-file : goal.invariant-loop-file
invariant-loop-file l = (x : Option (List ℕ)) → HasFile (drop l.file-index l.files) l.name x → HasFile l.files l.name x
