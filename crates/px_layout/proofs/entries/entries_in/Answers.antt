use Rattle.px_meaning.specs.declared.Dir.TheVariants.{Main}
use Rattle.px_layout.proofs.plans.EntryLists.{few_fields}
use Rattle.px_layout.proofs.entries.entries_in.Goals as goal

pub layered-requires-clause-few : goal.layered-requires-clause-few
layered-requires-clause-few c = few_fields Main c.args.m.now.main c.requires.main
