use Rattle.std.proofs.Common.{ℕ, List, length}
use Rattle.px_xmp_forms.specs.Languages.{AreParts, IsLanguage}
use Rattle.px_xmp_forms.proofs.languages.are_parts.Given as goal

abbrev pub invariant-loop-after : goal.invariant-loop-after
invariant-loop-after l = record {
  whole : (ps : List (List ℕ)) → AreParts l.is_first ps l.rest → IsLanguage l.octets;
  left : IsLanguage l.octets → (ps : List (List ℕ)) × AreParts l.is_first ps l.rest;
}

abbrev pub decreases-loop-after : goal.decreases-loop-after
decreases-loop-after l = length l.rest
