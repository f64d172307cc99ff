use Rattle.std.proofs.Common.{◌≡◌, ◌≤◌, ◌<◌, ◌+◌, ◌-◌, ℕ, drop, length, option_map}
use Rattle.px_xmp_marks.specs.Reading.{attributes_in, attributes_of}
use Rattle.px_xmp_marks.proofs.tags.attributes_len.Given as goal

-- what is left, after what was read, has the same end as all
abbrev pub invariant-loop-after : goal.invariant-loop-after
invariant-loop-after l = record {
  within : l.at ≤ length l.octets;
  left : (m : ℕ) × (length l.octets - l.at < m) × (option_map (λ r. l.at + r.1) (attributes_in m (drop l.at l.octets))
      ≡ option_map (λ r. r.1) (attributes_of l.octets));
}

abbrev pub decreases-loop-after : goal.decreases-loop-after
decreases-loop-after l = length l.octets - l.at
