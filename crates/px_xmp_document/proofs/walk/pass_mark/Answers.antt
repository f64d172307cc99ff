use Rattle.std.proofs.Common.{sym}
use Rattle.px_xmp_markup.specs.Kinds.{mark_view}
use Rattle.px_xmp_document.proofs.WalkLaws.{other_goes, other_wrong}
use Rattle.px_xmp_document.proofs.walk.pass_mark.Goals as goal

pub returns-in-Some-pass-clause-wrong : goal.returns-in-Some-pass-clause-wrong
returns-in-Some-pass-clause-wrong c =
    other_wrong c.only_kinds_are_read.ensures c.args.octets.now (mark_view c.in-Some.mark) c.args.nesting.now
    c.in-Some-pass.cause (sym c.in-Some.ensures.value) c.in-Some-pass.ensures

pub returns-in-None-clause-passed : goal.returns-in-None-clause-passed
returns-in-None-clause-passed c scope = (
  c.in-Some.ensures.within.0,
  c.in-Some.ensures.within.1,
  other_goes c.start_tags_are_read.ensures c.end_tags_are_read.ensures c.only_kinds_are_read.ensures c.args.octets.now
      (mark_view c.in-Some.mark) c.args.nesting.now c.pass.new.self scope c.requires.start
      c.requires.end (sym c.in-Some.ensures.value) c.in-None.ensures,
)
