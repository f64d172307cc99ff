use Rattle.std.proofs.Common.{◌≡◌, ◌≤◌, ◌<◌, ◌-◌, ℕ, List, drop, length, option_map}
use Rattle.px_xmp_marks.specs.Reading.{Attr, attributes_in, attributes_of}
use Rattle.px_xmp_marks.proofs.TagSteps.{after, AreStored}
use Rattle.px_xmp_marks.proofs.stored.store_attributes.Given as goal

-- what was read and what is left are all, and what was read is stored
abbrev pub invariant-loop-after : goal.invariant-loop-after
invariant-loop-after l = record {
  within : l.at ≤ length l.octets;
  few : l.len ≤ l.at;
  size : length l.space ≡ length l.fn.space;
  left : (m : ℕ) × (seen : List Attr) × (length l.octets - l.at < m)
      × (option_map (after seen l.at) (attributes_in m (drop l.at l.octets)) ≡ attributes_of l.octets) × AreStored l.len l.space seen;
}

abbrev pub decreases-loop-after : goal.decreases-loop-after
decreases-loop-after l = length l.octets - l.at
