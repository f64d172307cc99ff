use Rattle.std.proofs.Common.{◌≡◌, ◌≤◌, ◌+◌, ◌-◌, ◌*◌, ◌++◌, ℕ, take, drop, flat_map, map, length}
use Rattle.px_bytes.specs.declared.Order.TheVariants.{Most}
use Rattle.px_layout.specs.Laid.{long_bytes}
use Rattle.px_layout.specs.calls.Given.{strips_size, strip_places}
use Rattle.px_layout.proofs.put_running.encode_offsets.Given as goal

-- the offsets so far are encoded, the next strip comes after these strips, and the lengths of the others are still there
abbrev pub invariant-loop-i : goal.invariant-loop-i
invariant-loop-i l = record {
  after : l.start ≤ l.i;
  left : l.next + strips_size (drop l.i l.strips) ≡ l.at + strips_size (drop l.start l.strips);
  encoded : (first : ℕ) → l.at + strips_size (drop l.start l.strips) ≡ first + strips_size l.strips
      → flat_map (long_bytes Most) (take l.i (strip_places first l.strips))
      ≡ flat_map (long_bytes Most) (take l.start (strip_places first l.strips)) ++ take (4 * (l.i - l.start)) l.into;
  long : length l.into ≡ 4 * (l.end - l.start);
  rest : drop (4 * (l.i - l.start)) l.into ≡ flat_map (long_bytes Most) (drop l.i (take l.end (map (λ x. length x) l.strips)));
}
