use Rattle.std.proofs.Common.{◌≡◌, ◌≤◌, ◌+◌, ◌++◌, ℕ, List, length, vec_len, vec_capacity}
use Rattle.std.specs.List.{AllByRecursion}
use Rattle.px_iim.specs.Group.{IsGroup}
use Rattle.px_iim.specs.Record.{normal_iim}
use Rattle.px_iim.proofs.write.append_record.Given as goal

-- the groups so far were appended, and those that are left make the rest of the form
abbrev pub invariant-loop-rec : goal.invariant-loop-rec
invariant-loop-rec l = record {
  whole : AllByRecursion IsGroup l.rec-iterator;
  grown : (parts : List ℕ) × (l.out.items ≡ l.initial.out.items ++ parts) × (parts ++ normal_iim l.rec-iterator ≡ normal_iim l.iim);
  memory : l.memory.failed_allocations ≡ l.initial.memory.failed_allocations;
  asked : l.memory.asked ≡ l.initial.memory.asked;
  space : vec_len l.out + length (normal_iim l.rec-iterator) ≤ vec_capacity l.out;
}
