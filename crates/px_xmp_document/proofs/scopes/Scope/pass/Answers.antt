use Rattle.std.proofs.Common.{Ok, option_map, sym, ap, subst, ◌∙◌}
use Rattle.px_xmp_marks.specs.Reading.{start_tag_view}
use Rattle.px_xmp_document.specs.Pieces.{Piece}
use Rattle.px_xmp_document.specs.Tags.{passed}
use Rattle.px_xmp_document.specs.calls.Passing.{Gives}
use Rattle.px_xmp_document.proofs.PieceLaws.{start_is, other_is}
use Rattle.px_xmp_document.proofs.scopes.Scope.pass.Goals as goal

pub returns-in-Some : goal.returns-in-Some
returns-in-Some c p m rest i w =
    let (attributes, listed, same) =
    start_is c.marks_are_read.ensures c.start_tags_are_read.ensures c.only_start_tags_are_read.ensures c.args.octets.now
    (start_tag_view c.in-Some.tag) (sym c.requires ∙ ap (option_map start_tag_view) c.in-Some.is) p m rest i w in
    subst (λ (q : Piece). Gives c.pass_start.result c.pass_start.new.self (passed q c.args.self.now)) (sym same)
    (c.pass_start.ensures attributes listed)

pub returns : goal.returns
returns c p m rest i w =
    other_is c.marks_are_read.ensures c.start_tags_are_read.ensures c.end_tags_are_read.ensures c.only_end_tags_are_read.ensures
    c.args.octets.now (sym c.requires ∙ ap (option_map start_tag_view) c.in_default.is) c.args.self.now p m rest i w
    ∙ ap Ok (sym c.pass_other.ensures)
