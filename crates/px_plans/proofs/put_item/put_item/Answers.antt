use Rattle.px_layout.specs.Laid.{item_bytes}
use Rattle.px_plans.proofs.put_item.put_item.Goals as goal

pub returns-in-StripOffsets : goal.returns-in-StripOffsets
unfolding item_bytes
returns-in-StripOffsets g c = rw c.in-StripOffsets.is (rw (← c.len.ensures) c.put_strip_offsets.ensures)
