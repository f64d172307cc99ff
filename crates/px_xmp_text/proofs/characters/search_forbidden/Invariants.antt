use Rattle.std.proofs.Common.{◌≡◌, ◌≤◌, length, take, drop}
use Rattle.std.specs.Str.Iter.{char_indices_offset, char_indices_rest}
use Rattle.px_xmp_text.specs.Characters.{AreCharacters}
use Rattle.px_xmp_text.proofs.characters.search_forbidden.Given as goal

-- what was read are characters, and the others are left
abbrev pub invariant-loop-at : goal.invariant-loop-at
invariant-loop-at l = record {
  within : char_indices_offset l.at-iterator ≤ length l.text;
  read : AreCharacters (take (char_indices_offset l.at-iterator) l.text);
  left : char_indices_rest l.at-iterator ≡ drop (char_indices_offset l.at-iterator) l.text;
}
