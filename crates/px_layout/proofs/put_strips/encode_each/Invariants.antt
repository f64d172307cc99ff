use Rattle.std.proofs.Common.{◌≡◌, ◌≤◌, ◌-◌, ◌*◌, ◌++◌, take, flat_map, map, length}
use Rattle.px_layout.specs.Laid.{long_bytes}
use Rattle.px_layout.proofs.put_strips.encode_each.Given as goal

-- the lengths so far are encoded
abbrev pub invariant-loop-i : goal.invariant-loop-i
invariant-loop-i l = record {
  after : l.start ≤ l.i;
  encoded : flat_map (long_bytes l.order) (take l.i (map (λ x. length x) l.strips))
      ≡ flat_map (long_bytes l.order) (take l.start (map (λ x. length x) l.strips)) ++ take (4 * (l.i - l.start)) l.into;
}
