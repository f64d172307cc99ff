use Rattle.std.proofs.Common.{refl, ap, ◌∙◌}
use Rattle.std.specs.Bool.{⊤}
use Rattle.std.proofs.lemmas.Result.{err_from_is_err_and}
use Rattle.px_xmp_text.specs.Values.{Structure}
use Rattle.px_xmp_forms.specs.Outputs.{changed}
use Rattle.px_xmp.specs.Names.{Name}
use Rattle.px_xmp.specs.Meaning.{label_in}
use Rattle.px_xmp.specs.calls.Opening.{name_of}
use Rattle.px_xmp.specs.calls.Contents.{with_entries}
use Rattle.px_xmp.proofs.AheadLaws.{memory_says}
use Rattle.px_xmp.proofs.OpeningLaws.{properties_begin, properties_next, properties_end, ahead_first, ahead_next}
use Rattle.px_xmp.proofs.opening.put_properties.Goals as goal

pub loop-found-init : goal.loop-found-init
loop-found-init c =
    record {
      put = λ s all has listed.
          properties_begin c.next_plain-found.result c.args.scope.now all c.args.around.language.now c.args.around.depth c.args.around.place s c.args.output.now
          (c.next_plain-found.ensures.value all listed) has;
      ahead = λ all es listed fits. (all, c.next_plain-found.ensures.value all listed, es, fits);
      failed_allocations = refl;
    }

pub loop-found-preserved : goal.loop-found-preserved
loop-found-preserved c =
    record {
      put = λ s all has listed.
          let left = c.loop-found.invariant.put s all has listed in
          properties_next c.loop-found.found c.next_plain-found-in-Some.result c.in-Some.next c.args.scope.now all c.args.around.language.now c.args.around.depth
          c.args.around.place s c.loop-found.output c.put_property.new.output (name_of c.attribute-name.result) c.in-Some.is left
          c.next_plain-found-in-Some.ensures.value c.attribute-name.ensures
          (c.in_ok-put_property.ensures.value (changed (with_entries left.entries) s) left.has);
      ahead = λ all es listed fits.
          (ahead_next c.loop-found.found c.next_plain-found-in-Some.result c.in-Some.next c.args.scope.now c.args.around.language.now c.args.around.place
          c.args.around.depth c.in-Some.is (c.loop-found.invariant.ahead all es listed fits) c.next_plain-found-in-Some.ensures.value).1;
      failed_allocations = c.in_ok-put_property.ensures.memory ∙ c.loop-found.invariant.failed_allocations;
    }

pub returns-clause-value : goal.returns-clause-value
returns-clause-value c s all has listed =
    properties_end c.loop-found.found c.args.scope.now all c.args.around.language.now c.args.around.depth c.args.around.place s c.loop-found.output c.in_default.is
    (c.loop-found.invariant.put s all has listed)

pub returns-in_err-put_property-clause-accepts : goal.returns-in_err-put_property-clause-accepts
returns-in_err-put_property-clause-accepts c all es listed fits =
    let (label, t, named, says, short, room) = ahead_first c.loop-found.found c.in-Some.next c.args.scope.now c.args.around.language.now
    c.args.around.place c.args.around.depth c.in-Some.is (c.loop-found.invariant.ahead all es listed fits) in
    let p = err_from_is_err_and c.from_residual.result c.from_residual.ensures.1 in
    rw (p.1, p.2) (memory_says ⊤ ⊤ c.in_err-put_property.field-0.0
    (c.in_err-put_property.ensures.accepts label t (ap (λ (z : Name). label_in Structure z) c.attribute-name.ensures ∙ named) says short room))
