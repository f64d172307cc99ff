use Rattle.std.proofs.Common.{ap, ◌∙◌, List}
use Rattle.px_xmp_marks.specs.Reading.{name_view}
use Rattle.px_xmp_document.specs.Scopes.{Item}
use Rattle.px_xmp.specs.Names.{element_name}
use Rattle.px_xmp.proofs.TagLaws.{fields_same}
use Rattle.px_xmp.proofs.scope.Scope.enter.Goals as goal

pub returns-clause-tag : goal.returns-clause-tag
returns-clause-tag c all l =
    let e = c.in_ok-declared.ensures.items all l in
    let (language, (more, listed, same)) = c.in_ok-declared.ensures.tag all l in (
      c.element.ensures ∙ ap (λ (s : List Item). element_name s (name_view c.args.tag.name)) e,
      language,
      more,
      listed,
      fields_same more all c.open.new.self _ e same,
    )
