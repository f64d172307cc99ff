use Rattle.std.proofs.Common.{◌≡◌, ◌+◌, true, take, drop}
use Rattle.std.specs.List.{list_all, prefix_len}
use Rattle.px_xmp_forms.specs.Languages.{is_part_octet}
use Rattle.px_xmp_forms.proofs.languages.part_len.Given as goal

abbrev pub invariant-loop-n : goal.invariant-loop-n
invariant-loop-n l = record {
  part : list_all (is_part_octet l.is_first) (take l.n l.octets) ≡ true;
  longest : l.n + prefix_len (is_part_octet l.is_first) (drop l.n l.octets) ≡ prefix_len (is_part_octet l.is_first) l.octets;
}
