use Rattle.std.proofs.Common.{◌≡◌, ◌≤◌}
use Rattle.px_xmp_document.specs.Scopes.{space_of}
use Rattle.px_xmp_document.specs.calls.Entries.{entries_of}
use Rattle.px_xmp_document.proofs.scopes.find.Given as goal

-- the last entries do not declare the prefix
abbrev pub invariant-loop-n : goal.invariant-loop-n
invariant-loop-n l = record {
  within : l.n ≤ l.len;
  left : space_of l.prefix (entries_of l.n l.entries) ≡ space_of l.prefix (entries_of l.len l.entries);
}

abbrev pub decreases-loop-n : goal.decreases-loop-n
decreases-loop-n l = l.n
