use Rattle.std.proofs.Common.{sym, ◌∙◌}
use Rattle.px_xmp_marks.proofs.SearchLaws.{no_section_end}
use Rattle.px_xmp_marks.proofs.searching.has_section_end.Goals as goal

pub returns-then-not-contains : goal.returns-then-not-contains
returns-then-not-contains c = sym (no_section_end 0 c.args.octets.now (sym c.contains.ensures.value ∙ c.if-not-contains.true))
