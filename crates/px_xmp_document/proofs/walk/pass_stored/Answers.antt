use Rattle.std.proofs.Common.{List, map, take, refl, sym, subst, arith}
use Rattle.px_xmp_marks.specs.Reading.{Attr, attribute_view, start_tag_view}
use Rattle.px_xmp_document.specs.calls.Walks.{PassesTag}
use Rattle.px_xmp_document.proofs.WalkLaws.{tag_goes, tag_wrongs}
use Rattle.px_xmp_document.proofs.walk.pass_stored.Goals as goal

pub returns-in-Ok-clause-passed : goal.returns-in-Ok-clause-passed
returns-in-Ok-clause-passed c =
    let t = start_tag_view c.args.stored.tag in
    let front = c.split_at.ensures.front in
    let attributes : List Attr = map attribute_view (take c.args.stored.len c.args.space.now) in (
      c.requires.within.0,
      c.requires.within.1,
      tag_goes c.start_tags_are_read.ensures c.only_start_tags_are_read.ensures c.args.octets.now t attributes c.args.nesting.now
          c.pass_tag.new.nesting c.args.scope.now c.pass_tag.new.scope (sym c.requires.tag)
          (c.requires.stored (omega (arith, c.if-stored-space.false)))
          (subst (λ z. PassesTag t (map attribute_view z) c.args.nesting.now c.pass_tag.new.nesting c.args.scope.now c.pass_tag.new.scope) front (c.in-Ok.ensures.passed refl)),
    )

pub returns-in-Err-clause-wrong : goal.returns-in-Err-clause-wrong
returns-in-Err-clause-wrong c =
    tag_wrongs c.only_start_tags_are_read.ensures c.args.octets.now (start_tag_view c.args.stored.tag) c.args.nesting.now (sym c.requires.tag)
    c.in-Err.wrong c.in-Err.ensures.wrong
