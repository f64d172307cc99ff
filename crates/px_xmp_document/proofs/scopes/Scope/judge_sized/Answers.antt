use Rattle.std.proofs.Common.{◌≡◌, true, map, length, sym, ap, subst, ◌∙◌, arith}
use Rattle.std.proofs.lemmas.List.{length-map}
use Rattle.px_xmp_marks.specs.Reading.{Attr, name_view}
use Rattle.px_xmp_document.specs.Tags.{is_element_bound}
use Rattle.px_xmp_document.specs.calls.Passing.{Gives}
use Rattle.px_xmp_document.proofs.TagNameLaws.{names_of, few_judged}
use Rattle.px_xmp_document.proofs.scopes.Scope.judge_sized.Goals as goal

pub returns-in-Some : goal.returns-in-Some
returns-in-Some c attributes l =
    let s = c.args.self.now in
    let n = name_view c.args.tag.name in
    let stored = c.in-Some.ensures.names attributes l in
    let front = c.split_at.ensures.front in
    let names = map name_view c.split_at.result.0.now in
    let e : names ≡ names_of attributes = ap (λ z. map name_view z) front ∙ stored in
    let bound : is_element_bound s n ≡ true = sym c.is_element_bound.ensures ∙ c.if-not-is_element_bound.false in
    subst (λ r. Gives c.judge_names.result s r)
    (few_judged n attributes s names bound e
    (omega (
      arith,
      ap length e,
      length-map c.split_at.result.0.now name_view,
      length-map attributes (λ (a : Attr). a.name),
      c.in-Some.ensures.within,
      c.in-Some.ensures.size,
      ap length front,
      c.split_at.ensures.front_len,
    )))
    c.judge_names.ensures
