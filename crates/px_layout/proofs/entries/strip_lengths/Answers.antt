use Rattle.px_layout.proofs.plans.EntryLists.{strips_counted}
use Rattle.px_layout.proofs.entries.strip_lengths.Goals as goal

pub returns-in-Some-clause-counted : goal.returns-in-Some-clause-counted
returns-in-Some-clause-counted c = strips_counted c.args.strips.now c.in-Some.strips c.in-Some.is c.requires
