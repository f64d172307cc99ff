use Rattle.px_plans.proofs.plans.Keyed.{offset_absent, in_order_after, found_after}
use Rattle.px_plans.proofs.keyed.KeyedOffsets.put.Goals as goal

pub unreachable-requires : goal.unreachable-requires
unreachable-requires c =
    offset_absent _ _ _ c.args.self.now.ordered (rw c.deref.ensures.value at c.in-Ok.ensures.found) c.requires

pub invariant_of-self : goal.invariant_of-self
invariant_of-self c = record {
  ordered =
      in_order_after c.insert.result c.args.self.now.list.items c.insert.new.list.items c.args.key c.in-Err.i c.args.offset
      c.insert.ensures.items c.args.self.now.ordered (rw c.deref.ensures.value at c.in-Err.ensures.absent);
}

pub returns-clause-ok : goal.returns-clause-ok
returns-clause-ok c =
    found_after c.insert.result c.args.self.now.list.items c.insert.new.list.items c.args.key c.in-Err.i c.args.offset
    c.insert.ensures.items c.requires
