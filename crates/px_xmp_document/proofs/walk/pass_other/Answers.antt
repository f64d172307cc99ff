use Rattle.std.proofs.Common.{sym}
use Rattle.px_xmp_marks.specs.Reading.{end_tag_view}
use Rattle.px_xmp_document.proofs.WalkLaws.{end_goes, end_wrong}
use Rattle.px_xmp_document.proofs.walk.pass_other.Goals as goal

pub returns-in-Some-pass_end-clause-wrong : goal.returns-in-Some-pass_end-clause-wrong
returns-in-Some-pass_end-clause-wrong c =
    end_wrong c.only_end_tags_are_read.ensures c.args.octets.now (end_tag_view c.in-Some.tag) c.args.nesting.now c.in-Some-pass_end.cause
    (sym c.in-Some.ensures.value) c.in-Some-pass_end.ensures.step

pub returns-in-None-clause-passed : goal.returns-in-None-clause-passed
returns-in-None-clause-passed c = (
  c.in-Some.ensures.within.0,
  c.in-Some.ensures.within.1,
  end_goes c.start_tags_are_read.ensures c.only_end_tags_are_read.ensures c.args.octets.now (end_tag_view c.in-Some.tag) c.args.nesting.now
      c.pass_end.new.nesting c.args.scope.now c.pass_end.new.scope c.requires.start (sym c.in-Some.ensures.value)
      c.in-None.ensures.step c.in-None.ensures.scope,
)
