use Rattle.std.proofs.Common.{[], ◌∷◌, refl, sym, subst, ◌∙◌}
use Rattle.px_xmp_marks.specs.Reading.{next_view}
use Rattle.px_xmp_forms.specs.Outputs.{changed}
use Rattle.px_xmp.specs.Tags.{field_of}
use Rattle.px_xmp.specs.declared.source.Source.{Source}
use Rattle.px_xmp.specs.calls.Contents.{with_entries}
use Rattle.px_xmp.specs.calls.Roots.{AttributeRead}
use Rattle.px_xmp.proofs.RootLaws.{attributes_begin, attributes_next, attributes_end}
use Rattle.std.specs.Bool.{⊤}
use Rattle.std.proofs.lemmas.Result.{err_from_is_err_and}
use Rattle.px_xmp.specs.Meaning.{AreAttributes, without_about}
use Rattle.px_xmp.specs.calls.Fits.{FieldFits}
use Rattle.px_xmp.proofs.AheadLaws.{memory_says}
use Rattle.px_xmp.proofs.SubjectAttributeLaws.{properties_next, fields_next}
use Rattle.px_xmp.proofs.reader.Reader.read_subject_attributes.Goals as goal

pub loop-found-init : goal.loop-found-init
loop-found-init c =
    record {
      source = refl;
      put = λ s all has listed.
          attributes_begin c.next_plain-found.result c.args.self.now.source.scope all c.args.around.language.now c.args.around.depth c.args.around.place s
          c.args.subject.now c.args.self.now.output (c.next_plain-found.ensures.value all listed) has;
      ahead = λ all es listed fit. (all, c.next_plain-found.ensures.value all listed, es, fit);
      fits = λ all listed short subject. ((all, c.next_plain-found.ensures.value all listed, short), subject);
      failed_allocations = refl;
    }

pub loop-found-preserved : goal.loop-found-preserved
loop-found-preserved c =
    record {
      source = c.in_ok-read_subject_attribute.ensures.source ∙ c.loop-found.invariant.source;
      put = λ s all has listed.
          let left = c.loop-found.invariant.put s all has listed in
          attributes_next c.loop-found.found c.next_plain-found-in-Some.result c.in-Some.next c.args.self.now.source.scope all
          c.args.around.language.now c.args.around.depth c.args.around.place s c.args.subject.now c.loop-found.subject c.read_subject_attribute.new.subject
          c.loop-found.self.output c.read_subject_attribute.new.self.output c.in-Some.is left c.next_plain-found-in-Some.ensures.value
          (subst (λ (z : Source). AttributeRead (field_of z.scope (next_view c.in-Some.next).attribute) c.args.around.language.now c.args.around.depth
          c.args.around.place (changed (with_entries left.entries) s) c.loop-found.subject c.read_subject_attribute.new.subject
          c.read_subject_attribute.new.self.output) c.loop-found.invariant.source
          (c.in_ok-read_subject_attribute.ensures.value (changed (with_entries left.entries) s) left.has));
      ahead = λ all es listed fit.
          (properties_next c.loop-found.found c.in-Some.next c.args.self.now.source.scope c.args.around.language.now c.args.around.place c.args.around.depth
          c.in-Some.is (c.loop-found.invariant.ahead all es listed fit)).1 c.next_plain-found-in-Some.result c.next_plain-found-in-Some.ensures.value;
      fits = λ all listed short subject.
          let (left, kept) = c.loop-found.invariant.fits all listed short subject in
          let (first, next) = fields_next c.loop-found.found c.in-Some.next c.args.self.now.source.scope c.in-Some.is left in (
            next c.next_plain-found-in-Some.result c.next_plain-found-in-Some.ensures.value,
            c.in_ok-read_subject_attribute.ensures.fits
                (subst (λ (z : Source). FieldFits (field_of z.scope (next_view c.in-Some.next).attribute)) (sym c.loop-found.invariant.source) first) kept,
          );
      failed_allocations = c.in_ok-read_subject_attribute.ensures.memory ∙ c.loop-found.invariant.failed_allocations;
    }

pub returns-clause-value : goal.returns-clause-value
returns-clause-value c s all has listed =
    attributes_end c.loop-found.found c.args.self.now.source.scope all c.args.around.language.now c.args.around.depth c.args.around.place s c.args.subject.now
    c.loop-found.subject c.loop-found.self.output c.in_default.is (c.loop-found.invariant.put s all has listed)

pub returns-in_err-read_subject_attribute-clause-accepts : goal.returns-in_err-read_subject_attribute-clause-accepts
returns-in_err-read_subject_attribute-clause-accepts c all es listed are fit short subject =
    let p = err_from_is_err_and c.from_residual.result c.from_residual.ensures.1 in
    let back = sym c.loop-found.invariant.source in
    let (own, (own_are, own_fit)) = (properties_next c.loop-found.found c.in-Some.next c.args.self.now.source.scope c.args.around.language.now
    c.args.around.place c.args.around.depth c.in-Some.is (c.loop-found.invariant.ahead all es listed (are, fit))).0 in
    let (left, kept) = c.loop-found.invariant.fits all listed short subject in
    let first = (fields_next c.loop-found.found c.in-Some.next c.args.self.now.source.scope c.in-Some.is left).0 in
    rw (p.1, p.2) (memory_says ⊤ ⊤ c.in_err-read_subject_attribute.field-0.0
    (c.in_err-read_subject_attribute.ensures.accepts own
    (subst (λ (z : Source). AreAttributes c.args.around.language.now c.args.around.place
    (without_about (field_of z.scope (next_view c.in-Some.next).attribute ∷ [])) own) back own_are) own_fit
    (subst (λ (z : Source). FieldFits (field_of z.scope (next_view c.in-Some.next).attribute)) back first) kept))

pub returns-clause-fits : goal.returns-clause-fits
returns-clause-fits c all listed short subject = (c.loop-found.invariant.fits all listed short subject).1
