use Rattle.std.specs.Bool.{⊤}
use Rattle.std.proofs.Common.{◌≡◌, Option, is_some, List, ℕ, [], codes, refl, sym, ap, subst, ◌∙◌}
use Rattle.px_xmp.specs.Names.{is_rdf}
use Rattle.px_xmp_text.specs.Values.{End}
use Rattle.px_xmp_forms.specs.Outputs.{State, begun, changed, nothing}
use Rattle.px_xmp.specs.Tags.{DeclaresLanguage, inherited}
use Rattle.px_xmp.specs.calls.Contents.{with_entries}
use Rattle.px_xmp.proofs.OpeningLaws.{none_after}
use Rattle.px_xmp.proofs.RootLaws.{no_fields, rdf_row, rdf_done}
use Rattle.px_xmp.proofs.reader.Reader.read_rdf.Goals as goal
use Rattle.std.proofs.lemmas.Result.{err_from_is_err_and}
use Rattle.std.proofs.lemmas.Bool.{both_ways}
use Rattle.px_xmp.proofs.RefusedLaws.{rare_says, wrong_at}
use Rattle.px_xmp_text.specs.Values.{Structure}
use Rattle.px_xmp_forms.specs.Entries.{Entry}
use Rattle.px_xmp.specs.Meaning.{AreSubjects}
use Rattle.px_xmp.specs.declared.elements.Node.TheVariants as node_kinds
use Rattle.px_xmp.specs.calls.Fits.{LanguageFits, AreFit, JoinFits}
use Rattle.px_xmp.proofs.OpeningLaws.{no_field}
use Rattle.px_xmp.proofs.AheadLaws.{memory_says, none_some}
use Rattle.px_xmp.proofs.FitLaws.{row_fits, join_fits, has_can}
use Rattle.px_xmp.proofs.SubjectLaws.{subjects_same, new_fits}

pub returns-clause-read : goal.returns-clause-read
returns-clause-read c t has left fresh (name, language, all, listed, fields) =
    let empty : State = record { opened = []; properties = End } in
    let sub = c.in_ok-read_subjects.ensures.read (begun nothing empty) (c.in_ok-begin.ensures.value empty has) left in
    let (after, now, joins) = c.in_ok-join_properties.ensures.value (changed (with_entries sub.entries) (begun nothing empty)) sub.has in
    let (content, line, put) = rdf_row sub.entries after c.join_properties.new.self c.end_properties.new.self joins now c.end_properties.ensures in
    let none = none_after c.next_plain.result all (sym c.is_some.ensures ∙ c.if-is_some.false) (c.next_plain.ensures.value all listed) in
    rdf_done c.args.opened t c.in-Some.around.language.now c.in-Some.around.depth c.args.self.now.source c.read_subjects.new.self.source _ c.args.subject.now
    c.read_subjects.new.subject (begun nothing empty) c.read_subjects.new.self.output c.end_properties.new.self content
    (subst DeclaresLanguage language c.in-Some.ensures.declares) (sym c.is_rdf.ensures ∙ c.if-not-is_rdf.false) name
    (c.in-Some.ensures.language ∙ ap (λ (z : Option (List ℕ)). inherited [] z) language) c.in-Some.ensures.depth
    (sym fields ∙ no_fields c.args.self.now.source.scope all none) refl refl c.close.ensures fresh sub line put

pub returns-then-not-is_rdf-clause-refused : goal.returns-then-not-is_rdf-clause-refused
returns-then-not-is_rdf-clause-refused c t opened =
    wrong_at ⊤ _ _ _ _ c.at.ensures (ap (is_rdf (codes "RDF")) (sym opened.0) ∙ sym c.is_rdf.ensures ∙ c.if-not-is_rdf.true)

pub returns-in_err-begin-clause-refused : goal.returns-in_err-begin-clause-refused
returns-in_err-begin-clause-refused c t opened =
    let p = err_from_is_err_and c.from_residual.result c.from_residual.ensures.1 in
    rw (p.1, p.2) (rare_says ⊤ ⊤ c.in_err-begin.field-0.0 _ c.in_err-begin.ensures.rare)

pub returns-in_err-read_subjects-clause-refused : goal.returns-in_err-read_subjects-clause-refused
returns-in_err-read_subjects-clause-refused c t opened =
    let p = err_from_is_err_and c.from_residual-in_err-read_subjects.result c.from_residual-in_err-read_subjects.ensures.1 in
    rw (p.1, p.2) (rare_says ⊤ ⊤ c.in_err-read_subjects.field-0.0 _ c.in_err-read_subjects.ensures.rare)

pub returns-in_err-join_properties-clause-refused : goal.returns-in_err-join_properties-clause-refused
returns-in_err-join_properties-clause-refused c t opened =
    let p = err_from_is_err_and c.from_residual-in_err-join_properties.result c.from_residual-in_err-join_properties.ensures.1 in
    rw (p.1, p.2) (rare_says ⊤ ⊤ c.in_err-join_properties.field-0.0 _ c.in_err-join_properties.ensures.rare)

pub returns-then-is_some-clause-accepts : goal.returns-then-is_some-clause-accepts
returns-then-is_some-clause-accepts c t nodes d y has fresh (name, language, all, listed, fields) ahead tag (declares, is, bare, u, es, subjects, row) fits =
    absurd (both_ways c.is_some.result (c.is_some.ensures ∙ ap is_some (no_field c.next_plain.result c.args.self.now.source.scope all (fields ∙ bare) (c.next_plain.ensures.value all listed))) c.if-is_some.true)

pub returns-in_default-clause-accepts : goal.returns-in_default-clause-accepts
returns-in_default-clause-accepts c t nodes d y has fresh opened ahead tag (declares, is, bare, u, es, subjects, row) fits =
    absurd (none_some c.inside.result c.in_default.is (c.inside.ensures.accepts (subst LanguageFits (sym opened.1) (declares, tag.0))))

pub returns-in_err-begin-clause-accepts : goal.returns-in_err-begin-clause-accepts
returns-in_err-begin-clause-accepts c t nodes d y has fresh opened ahead tag is fits =
    let p = err_from_is_err_and c.from_residual.result c.from_residual.ensures.1 in
    rw (p.1, p.2) (memory_says ⊤ ⊤ c.in_err-begin.field-0.0 (c.in_err-begin.ensures.accepts))

pub returns-in_err-read_subjects-clause-accepts : goal.returns-in_err-read_subjects-clause-accepts
returns-in_err-read_subjects-clause-accepts c t nodes d y has fresh opened ahead tag is fits =
    let (declares, named, bare, u, es, subjects, row) = is in
    let empty : State = record { opened = []; properties = End } in
    let spoken = c.in-Some.ensures.language ∙ ap (λ (z : Option (List ℕ)). inherited [] z) opened.1 in
    let p = err_from_is_err_and c.from_residual-in_err-read_subjects.result c.from_residual-in_err-read_subjects.ensures.1 in
    rw (p.1, p.2) (memory_says ⊤ ⊤ c.in_err-read_subjects.field-0.0
    (c.in_err-read_subjects.ensures.accepts (begun nothing empty) nodes u es y (c.in_ok-begin.ensures.value empty has) ahead
    (subst (λ (z : List ℕ). AreSubjects u z nodes es) (sym spoken) subjects)
    (subst (λ (z : ℕ). AreFit z es) (sym c.in-Some.ensures.depth) (row_fits Structure 3 es d row fits).0) (new_fits c.args.subject.now fresh)))

pub returns-in_err-join_properties-clause-accepts : goal.returns-in_err-join_properties-clause-accepts
returns-in_err-join_properties-clause-accepts c t nodes d y has fresh opened ahead tag is fits =
    let (declares, named, bare, u, es, subjects, row) = is in
    let empty : State = record { opened = []; properties = End } in
    let spoken = c.in-Some.ensures.language ∙ ap (λ (z : Option (List ℕ)). inherited [] z) opened.1 in
    let sub = c.in_ok-read_subjects.ensures.read (begun nothing empty) (c.in_ok-begin.ensures.value empty has) ahead.left in
    let entries : sub.entries ≡ es =
    subjects_same c.kinds_are_read.ensures c.packet_is_injective.ensures c.args.opened.is_empty u c.in-Some.around.language.now 3 c.in-Some.around.depth
    c.args.self.now.source c.read_subjects.new.self.source c.args.subject.now c.read_subjects.new.subject (begun nothing empty)
    c.read_subjects.new.self.output nodes es y ahead (subst (λ (z : List ℕ). AreSubjects u z nodes es) (sym spoken) subjects)
    (row_fits Structure 3 es d row fits).0 fresh sub (has_can c.read_subjects.new.self.output empty sub.entries nothing sub.has) in
    let join = subst (λ (z : List Entry). JoinFits node_kinds.Description z) (sym entries) (join_fits node_kinds.Description 3 es d row fits) in
    let p = err_from_is_err_and c.from_residual-in_err-join_properties.result c.from_residual-in_err-join_properties.ensures.1 in
    rw (p.1, p.2) (memory_says ⊤ ⊤ c.in_err-join_properties.field-0.0
    (c.in_err-join_properties.ensures.accepts (changed (with_entries sub.entries) (begun nothing empty)) sub.has join.0 join.1))
