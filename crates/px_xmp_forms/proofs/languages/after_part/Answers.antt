use Rattle.std.proofs.Common.{◌∙◌, drop, sym, ap, arith}
use Rattle.std.proofs.lemmas.List.{drop_at}
use Rattle.px_xmp_forms.proofs.LanguageLaws.{part_length}
use Rattle.px_xmp_forms.proofs.languages.after_part.Goals as goal

pub returns-then-len-eq0-clause-longest : goal.returns-then-len-eq0-clause-longest
returns-then-len-eq0-clause-longest c part rest is ends e =
    let len = part_length c.args.is_first part rest c.args.octets.now is ends e in
    absurd (omega (arith, c.part_len-len.ensures.longest, len, is.1))

pub returns-then-len-gt-PART_LIMIT-clause-longest : goal.returns-then-len-gt-PART_LIMIT-clause-longest
returns-then-len-gt-PART_LIMIT-clause-longest c part rest is ends e =
    let len = part_length c.args.is_first part rest c.args.octets.now is ends e in
    absurd (omega (arith, c.part_len-len.ensures.longest, len, is.2))

pub returns-clause-longest : goal.returns-clause-longest
returns-clause-longest c part rest is ends e =
    let len = part_length c.args.is_first part rest c.args.octets.now is ends e in
    c.split_at.ensures.back ∙ ap (drop c.part_len-len.result) e
    ∙ drop_at part rest c.part_len-len.result (sym (c.part_len-len.ensures.longest ∙ len))
