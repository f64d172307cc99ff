use Rattle.px_meaning.proofs.tables.StripRuns.{named_strip_size}
use Rattle.px_meaning.proofs.strip_lists.strip_len.Goals as goal

pub returns : goal.returns
returns c = named_strip_size c.args.lists.now c.requires.named c.args.i c.number_in.result c.requires.there c.number_in.ensures
