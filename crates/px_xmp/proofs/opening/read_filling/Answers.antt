use Rattle.std.specs.Bool.{⊤}
use Rattle.std.specs.Prelude.{Err}
use Rattle.std.proofs.Common.{◌≡◌, ◌⊎◌, ◌∷◌, Option, option_map, List, [], Some, codes, inl, inr, refl, sym, ap, subst, ◌∙◌}
use Rattle.std.proofs.lemmas.Result.{err_from_is_err_and}
use Rattle.std.proofs.lemmas.Bool.{both_ways}
use Rattle.px_xmp_text.specs.Values.{Label, Structure}
use Rattle.px_xmp_forms.specs.Entries.{Entry}
use Rattle.px_xmp_forms.specs.Causes.{FailsByMemory}
use Rattle.px_xmp.specs.declared.elements.Filling.{Filling}
use Rattle.px_xmp.specs.calls.Fits.{AttributesFit, OneFits}
use Rattle.px_xmp.specs.calls.Listed.{AreListed, IsNextPlain}
use Rattle.px_xmp.proofs.AheadLaws.{memory_says}
use Rattle.px_xmp_marks.specs.Reading.{Attr, next_view}
use Rattle.px_xmp_marks.specs.declared.listing.NextAttribute.{NextAttribute}
use Rattle.px_xmp.specs.Names.{Name, is_rdf}
use Rattle.px_xmp.specs.Tags.{plain, field_of, fields_in}
use Rattle.px_xmp.specs.Meaning.{label_in}
use Rattle.px_xmp.proofs.MeaningLaws.{no_property}
use Rattle.px_xmp.proofs.OpeningLaws.{some_field, filling_first, only_field, none_after, same_octets}
use Rattle.px_xmp.proofs.opening.read_filling.Goals as goal

pub returns-then-is_rdf-clause-value : goal.returns-then-is_rdf-clause-value
returns-then-is_rdf-clause-value c s all has listed =
    let (more, after, same) = subst (λ (z : Option NextAttribute). IsNextPlain (option_map next_view z) all) c.in-Some.is (c.next_plain.ensures.value all listed) in (
      field_of c.args.scope.now (next_view c.in-Some.first).attribute,
      only_field c.args.scope.now all more (next_view c.in-Some.first) same
          (none_after c.next_plain-else-ne.result more (sym c.is_some.ensures ∙ c.if-is_some.false) (c.next_plain-else-ne.ensures.value more after)),
      ap (λ (z : Name). is_rdf (112 ∷ 97 ∷ 114 ∷ 115 ∷ 101 ∷ 84 ∷ 121 ∷ 112 ∷ 101 ∷ []) z) (sym c.attribute-name.ensures) ∙ sym c.is_rdf.ensures
          ∙ c.if-is_rdf.true,
      same_octets c.in-Some.first.attribute.value.now (codes "Resource") (sym c.ne.ensures ∙ c.if-ne.false),
      has,
    )

pub returns-then-is_rdf-2-clause-value : goal.returns-then-is_rdf-2-clause-value
returns-then-is_rdf-2-clause-value c s all has listed =
    let (more, after, same) = subst (λ (z : Option NextAttribute). IsNextPlain (option_map next_view z) all) c.in-Some.is (c.next_plain.ensures.value all listed) in
    let put = c.in_ok-put_resource.ensures.value s has in (
      field_of c.args.scope.now (next_view c.in-Some.first).attribute,
      only_field c.args.scope.now all more (next_view c.in-Some.first) same (put.only more after),
      ap (λ (z : Name). is_rdf (114 ∷ 101 ∷ 115 ∷ 111 ∷ 117 ∷ 114 ∷ 99 ∷ 101 ∷ []) z) (sym c.attribute-name.ensures) ∙ sym c.is_rdf-2.ensures
          ∙ c.if-is_rdf-2.true,
      put.absolute,
      put.text,
      put.says,
      put.has,
    )

pub returns-in_err-put_resource-clause-accepts : goal.returns-in_err-put_resource-clause-accepts
returns-in_err-put_resource-clause-accepts c all listed fits =
    let (more, after, same) = subst (λ (z : Option NextAttribute). IsNextPlain (option_map next_view z) all) c.in-Some.is (c.next_plain.ensures.value all listed) in
    let p = err_from_is_err_and c.from_residual.result c.from_residual.ensures.1 in
    rw (p.1, p.2) (memory_says ⊤ Filling c.in_err-put_resource.field-0.0
    (by more after (filling_first c.args.around.language.now c.args.around.place c.args.around.depth c.args.scope.now all more (next_view c.in-Some.first) same fits)))
  where
    by : (more : List Attr) → AreListed c.in-Some.first.rest.now more → ((plain more ≡ []) × OneFits (field_of c.args.scope.now (next_view c.in-Some.first).attribute))
        ⊎ ((es : List Entry)
        × AttributesFit c.args.around.language.now c.args.around.place c.args.around.depth (fields_in c.args.scope.now all) es
        × ((label : Label) × (label_in Structure (field_of c.args.scope.now (next_view c.in-Some.first).attribute).name ≡ Some label)))
        → FailsByMemory {X = ⊤} (Err c.in_err-put_resource.field-0.0)
    by more after (inl (none, inl (parse, is))) =
        absurd (both_ways c.is_rdf.result c.if-is_rdf.false (c.is_rdf.ensures ∙ ap (λ (z : Name). is_rdf (codes "parseType") z) c.attribute-name.ensures ∙ parse))
    by more after (inl (none, inr (named, absolute, room))) = c.in_err-put_resource.ensures.accepts more after none absolute room
    by more after (inr (es, fit, (label, named))) =
        absurd (no_property (codes "resource") (field_of c.args.scope.now (next_view c.in-Some.first).attribute).name label refl
        (ap (λ (z : Name). is_rdf (codes "resource") z) (sym c.attribute-name.ensures) ∙ sym c.is_rdf-2.ensures ∙ c.if-is_rdf-2.true) named)

pub returns-in_err-put_properties-clause-accepts : goal.returns-in_err-put_properties-clause-accepts
returns-in_err-put_properties-clause-accepts c all listed fits =
    let (more, after, same) = subst (λ (z : Option NextAttribute). IsNextPlain (option_map next_view z) all) c.in-Some.is (c.next_plain.ensures.value all listed) in
    let p = err_from_is_err_and c.from_residual-in_err-put_properties.result c.from_residual-in_err-put_properties.ensures.1 in
    rw (p.1, p.2) (memory_says ⊤ Filling c.in_err-put_properties.field-0.0
    (by more after (filling_first c.args.around.language.now c.args.around.place c.args.around.depth c.args.scope.now all more (next_view c.in-Some.first) same fits)))
  where
    by : (more : List Attr) → AreListed c.in-Some.first.rest.now more → ((plain more ≡ []) × OneFits (field_of c.args.scope.now (next_view c.in-Some.first).attribute))
        ⊎ ((es : List Entry)
        × AttributesFit c.args.around.language.now c.args.around.place c.args.around.depth (fields_in c.args.scope.now all) es
        × ((label : Label) × (label_in Structure (field_of c.args.scope.now (next_view c.in-Some.first).attribute).name ≡ Some label)))
        → FailsByMemory {X = ⊤} (Err c.in_err-put_properties.field-0.0)
    by more after (inl (none, inl (parse, is))) =
        absurd (both_ways c.is_rdf.result c.if-is_rdf.false (c.is_rdf.ensures ∙ ap (λ (z : Name). is_rdf (codes "parseType") z) c.attribute-name.ensures ∙ parse))
    by more after (inl (none, inr (named, absolute, room))) =
        absurd (both_ways c.is_rdf-2.result c.if-is_rdf-2.false (c.is_rdf-2.ensures ∙ ap (λ (z : Name). is_rdf (codes "resource") z) c.attribute-name.ensures ∙ named))
    by more after (inr (es, fit, (label, named))) = c.in_err-put_properties.ensures.accepts all es listed fit

pub returns-clause-value : goal.returns-clause-value
returns-clause-value c s all has listed =
    let (more, after, same) = subst (λ (z : Option NextAttribute). IsNextPlain (option_map next_view z) all) c.in-Some.is (c.next_plain.ensures.value all listed) in
    (some_field c.args.scope.now all more (next_view c.in-Some.first) same, c.in_ok-put_properties.ensures.value s all has listed)
