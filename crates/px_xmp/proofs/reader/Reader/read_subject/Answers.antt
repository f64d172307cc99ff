use Rattle.std.proofs.Common.{Option, List, ℕ, refl, sym, ap, subst, ◌∙◌}
use Rattle.px_xmp_forms.specs.Outputs.{changed}
use Rattle.px_xmp.specs.Tags.{DeclaresLanguage, inherited, fields_in}
use Rattle.px_xmp.specs.declared.source.Source.{Source}
use Rattle.px_xmp.specs.calls.Steps.{IsLeft}
use Rattle.px_xmp.specs.calls.Contents.{with_entries}
use Rattle.px_xmp.proofs.RootLaws.{subject_done}
use Rattle.std.specs.Bool.{⊤}
use Rattle.std.proofs.lemmas.Result.{err_from_is_err_and}
use Rattle.px_xmp_text.specs.Values.{Structure}
use Rattle.px_xmp.specs.Tags.{Field}
use Rattle.px_xmp.specs.Meaning.{AreAttributes, AreEntries, without_about}
use Rattle.px_xmp.specs.calls.Fits.{IsAhead, LanguageFits, FieldsFit, AreFit}
use Rattle.px_xmp.proofs.AheadLaws.{memory_says, none_some}
use Rattle.px_xmp.proofs.FitLaws.{fit_front, fit_back}
use Rattle.px_xmp.proofs.reader.Reader.read_subject.Goals as goal

pub returns-clause-read : goal.returns-clause-read
returns-clause-read c s t has left (name, language, all, listed, fields) =
    let a = c.in_ok-read_subject_attributes.ensures.value s all has listed in
    let kept = c.in_ok-read_subject_attributes.ensures.source in
    subject_done c.args.opened t c.args.outer.language.now c.in-Some.around.language.now c.args.outer.depth c.in-Some.around.depth c.in-Some.around.place
    (fields_in c.args.self.now.source.scope all) c.args.self.now.source c.read_subject_attributes.new.self.source c.read_items.new.self.source _
    c.args.subject.now c.read_subject_attributes.new.subject s c.read_subject_attributes.new.self.output c.read_items.new.self.output
    (subst DeclaresLanguage language c.in-Some.ensures.declares) (sym c.is_rdf.ensures ∙ c.if-not-is_rdf.false) name
    (c.in-Some.ensures.language ∙ ap (λ (z : Option (List ℕ)). inherited c.args.outer.language.now z) language) c.in-Some.ensures.depth c.in-Some.ensures.place fields kept
    refl refl c.close.ensures a
    (c.in_ok-read_items.ensures.read (changed (with_entries a.entries) s) a.has (subst (λ (z : Source). IsLeft z.at z.rest.now) (sym kept) left))

pub returns-in_default-clause-accepts : goal.returns-in_default-clause-accepts
returns-in_default-clause-accepts c s t nodes fs es y has opened ahead tag is fit subject =
    absurd (none_some c.inside.result c.in_default.is (c.inside.ensures.accepts (subst LanguageFits (sym opened.1) (is.declares, tag.0))))

pub returns-in_err-read_subject_attributes-clause-accepts : goal.returns-in_err-read_subject_attributes-clause-accepts
returns-in_err-read_subject_attributes-clause-accepts c s t nodes fs es y has (name, language, all, listed, fields) ahead tag is fit subject =
    let around = c.in-Some.around in
    let spoken = c.in-Some.ensures.language ∙ ap (λ (z : Option (List ℕ)). inherited c.args.outer.language.now z) language in
    let are =
    subst (λ (z : List ℕ). AreAttributes z around.place (without_about (fields_in c.args.self.now.source.scope all)) fs) (sym spoken)
    (subst (λ (n : ℕ). AreAttributes (inherited c.args.outer.language.now t.language) n (without_about (fields_in c.args.self.now.source.scope all)) fs)
    (sym c.in-Some.ensures.place)
    (subst (λ (z : List Field). AreAttributes (inherited c.args.outer.language.now t.language) c.args.opened.place (without_about z) fs) (sym fields)
    is.attributes)) in
    let p = err_from_is_err_and c.from_residual.result c.from_residual.ensures.1 in
    rw (p.1, p.2) (memory_says ⊤ ⊤ c.in_err-read_subject_attributes.field-0.0
    (c.in_err-read_subject_attributes.ensures.accepts all fs listed are
    (subst (λ (z : ℕ). AreFit z fs) (sym c.in-Some.ensures.depth) (fit_front c.args.outer.depth fs es fit)) (subst FieldsFit (sym fields) tag.1) subject))

pub returns-in_err-read_items-clause-accepts : goal.returns-in_err-read_items-clause-accepts
returns-in_err-read_items-clause-accepts c s t nodes fs es y has (name, language, all, listed, fields) ahead tag is fit subject =
    let a = c.in_ok-read_subject_attributes.ensures.value s all has listed in
    let kept = c.in_ok-read_subject_attributes.ensures.source in
    let spoken = c.in-Some.ensures.language ∙ ap (λ (z : Option (List ℕ)). inherited c.args.outer.language.now z) language in
    let p = err_from_is_err_and c.from_residual-in_err-read_items.result c.from_residual-in_err-read_items.ensures.1 in
    rw (p.1, p.2) (memory_says ⊤ ⊤ c.in_err-read_items.field-0.0
    (c.in_err-read_items.ensures.accepts (changed (with_entries a.entries) s) nodes es y a.has
    (subst (λ (z : Source). IsAhead c.args.opened.is_empty nodes z y) (sym kept) ahead)
    (subst (λ (z : List ℕ). AreEntries Structure z nodes es) (sym spoken) is.are)
    (subst (λ (z : ℕ). AreFit z es) (sym c.in-Some.ensures.depth) (fit_back c.args.outer.depth fs es fit))))

pub returns-clause-fits : goal.returns-clause-fits
returns-clause-fits c t (name, language, all, listed, fields) tag subject =
    c.in_ok-read_subject_attributes.ensures.fits all listed (subst FieldsFit (sym fields) tag.1) subject
