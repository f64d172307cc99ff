use Rattle.std.proofs.Common.{Option, List, ℕ, ap, subst, sym, ◌∙◌}
use Rattle.px_xmp_forms.specs.Outputs.{begun, nothing}
use Rattle.px_xmp.specs.Tags.{DeclaresLanguage, inherited, fields_in}
use Rattle.px_xmp.specs.declared.elements.Node.{Node}
use Rattle.px_xmp.specs.calls.Contents.{NodeBegun}
use Rattle.std.specs.Bool.{⊤}
use Rattle.std.proofs.lemmas.Result.{err_from_is_err_and}
use Rattle.px_xmp.specs.declared.elements.Around.{Around}
use Rattle.px_xmp.proofs.AheadLaws.{memory_says}
use Rattle.px_xmp.proofs.ContentLaws.{description_begun}
use Rattle.px_xmp.proofs.reader.Reader.begin_node.Goals as goal

pub returns-in_ok-put_properties-in-Description-clause-value : goal.returns-in_ok-put_properties-in-Description-clause-value
returns-in_ok-put_properties-in-Description-clause-value c s t has (name, language, all, listed, fields) =
    subst (λ (z : Node). NodeBegun z t c.args.outer.language.now c.args.outer.depth c.args.opened.place c.in-Some.around s c.put_properties.new.output)
    (sym c.in-Description.is)
    (description_begun t c.args.outer.language.now c.args.outer.depth c.args.opened.place c.in-Some.around s c.put_properties.new.output
    (fields_in c.args.self.now.source.scope all) (subst DeclaresLanguage language c.in-Some.ensures.declares)
    (c.in-Some.ensures.language ∙ ap (λ (z : Option (List ℕ)). inherited c.args.outer.language.now z) language) c.in-Some.ensures.place c.in-Some.ensures.depth fields
    (c.in_ok-put_properties-in-Description.ensures.value (begun nothing s) all (c.in_ok-begin-in-Description.ensures.value s has) listed))

pub returns-in_err-begin-in-Description-clause-accepts : goal.returns-in_err-begin-in-Description-clause-accepts
returns-in_err-begin-in-Description-clause-accepts c t es opened language tag attributes room fits =
    let p = err_from_is_err_and c.from_residual.result c.from_residual.ensures.1 in
    rw (p.1, p.2) (memory_says ⊤ Around c.in_err-begin-in-Description.field-0.0 (c.in_err-begin-in-Description.ensures.accepts))

pub returns-in_err-begin-in-Container-clause-accepts : goal.returns-in_err-begin-in-Container-clause-accepts
returns-in_err-begin-in-Container-clause-accepts c t es opened language tag attributes room fits =
    let p = err_from_is_err_and c.from_residual-in_err-begin-in-Container.result c.from_residual-in_err-begin-in-Container.ensures.1 in
    rw (p.1, p.2) (memory_says ⊤ Around c.in_err-begin-in-Container.field-0.0 (c.in_err-begin-in-Container.ensures.accepts))
