use Rattle.std.proofs.Common.{sym}
use Rattle.px_meaning.specs.calls.Seen.{meaning_of}
use Rattle.px_layout.specs.lemmas.WalkLaws.{few_there}
use Rattle.px_plans.proofs.sizing.push_dir.Goals as goal

pub push_entries-requires : goal.push_entries-requires
push_entries-requires c = few_there (meaning_of c.args.m.now) c.args.dir c.in-Some.entries c.requires (sym c.in-Some.ensures)
