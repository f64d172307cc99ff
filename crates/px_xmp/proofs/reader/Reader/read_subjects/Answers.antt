use Rattle.std.proofs.Common.{Bool, Option, ◌++◌, refl, sym, subst, ◌∙◌}
use Rattle.px_xmp_forms.specs.Outputs.{changed}
use Rattle.px_xmp.specs.declared.elements.Opened.{Opened}
use Rattle.px_xmp.specs.calls.Steps.{TagAfter}
use Rattle.px_xmp.specs.calls.Contents.{with_entries}
use Rattle.px_xmp.specs.calls.Roots.{SubjectsRead}
use Rattle.px_xmp.proofs.RootLaws.{subjects_begin, subjects_next, subjects_end, subjects_none}
use Rattle.std.specs.Bool.{⊤}
use Rattle.std.proofs.lemmas.Result.{err_from_is_err_and}
use Rattle.px_xmp.specs.calls.Fits.{IsAhead}
use Rattle.px_xmp.proofs.AheadLaws.{memory_says}
use Rattle.px_xmp.proofs.SubjectLaws.{SubjectsAhead, subjects_tag, subject_tag, subjects_left, subject_ahead}
use Rattle.px_xmp.proofs.reader.Reader.read_subjects.Goals as goal

pub returns-then-opened-clause-read : goal.returns-then-opened-clause-read
returns-then-opened-clause-read c s has left =
    subjects_none c.args.opened.is_empty c.args.around.language.now c.args.around.depth c.args.self.now.source c.args.subject.now s c.args.self.now.output
    c.if-opened.true left has

pub subjects-init : goal.subjects-init
subjects-init c =
    record {
      read = λ s has left.
          subjects_begin c.args.around.language.now c.args.around.depth c.args.self.now.source c.args.subject.now s c.args.self.now.output left has;
      ahead = λ s y has ahead subject. (ahead, subject);
      failed_allocations = refl;
    }

pub subjects-preserved : goal.subjects-preserved
subjects-preserved c =
    record {
      read = λ s has left.
          let so = c.subjects.invariant.read s has left in
          let (white, is_white, tag) = c.in_ok-inner.ensures.read so.moves.left in
          subjects_next c.args.around.language.now c.args.around.depth c.args.self.now.source c.subjects.self.source c.next_tag.new.self
          c.read_subject.new.self.source c.args.subject.now c.subjects.subject c.read_subject.new.subject s c.subjects.self.output
          c.read_subject.new.self.output c.in-Some.inner white so is_white
          (subst (λ (z : Option Opened). TagAfter z white c.subjects.self.source c.next_tag.new.self) c.in-Some.is tag)
          (λ t opened. c.in_ok-read_subject.ensures.read (changed (with_entries so.entries) s) t so.has tag.moves.left opened);
      ahead = λ s y has ahead subject.
          let (a, named) = c.subjects.invariant.ahead s y has ahead subject in
          let so = c.subjects.invariant.read s has ahead.ahead.left in
          let (white, is_white, first) = c.in_ok-inner.ensures.read so.moves.left in
          let tag = subst (λ (z : Option Opened). TagAfter z white c.subjects.self.source c.next_tag.new.self) c.in-Some.is first in
          let (t, start) = tag.is in
          let v = c.in_ok-read_subject.ensures.read (changed (with_entries so.entries) s) t so.has tag.moves.left start.opened in
          let fits =
          subject_tag c.kinds_are_read.ensures c.args.around.language.now c.args.around.depth c.in-Some.inner white t
          c.subjects.self.source c.next_tag.new.self y a is_white tag start in (
            subjects_left c.kinds_are_read.ensures c.args.around.language.now c.args.around.depth c.in-Some.inner white t
                c.subjects.self.source c.next_tag.new.self y a is_white tag start v.nodes c.read_subject.new.self.source v.inside v.scope,
            c.in_ok-read_subject.ensures.fits t start.opened fits named,
          );
      failed_allocations = c.in_ok-read_subject.ensures.memory ∙ c.in_ok-inner.ensures.memory ∙ c.subjects.invariant.failed_allocations;
    }

pub returns-in_default-clause-read : goal.returns-in_default-clause-read
returns-in_default-clause-read c s has left =
    let so = c.subjects.invariant.read s has left in
    let (white, is_white, tag) = c.in_ok-inner.ensures.read so.moves.left in
    subst (λ (b : Bool). SubjectsRead b c.args.around.language.now c.args.around.depth c.args.self.now.source c.next_tag.new.self c.args.subject.now
    c.subjects.subject s c.subjects.self.output) (sym c.if-opened.false)
    (subjects_end c.args.around.language.now c.args.around.depth c.args.self.now.source c.subjects.self.source c.next_tag.new.self c.args.subject.now
    c.subjects.subject s c.subjects.self.output white so is_white
    (subst (λ (z : Option Opened). TagAfter z white c.subjects.self.source c.next_tag.new.self) c.in_default.is tag))

pub returns-in_err-inner-clause-accepts : goal.returns-in_err-inner-clause-accepts
returns-in_err-inner-clause-accepts c s nodes u es y has ahead are fit subject =
    let first : SubjectsAhead c.args.around.language.now c.args.around.depth c.args.self.now.source y = record {
      nodes = nodes;
      about = u;
      entries = es;
      ahead = subst (λ (b : Bool). IsAhead b nodes c.args.self.now.source y) c.if-opened.false ahead;
      are = are;
      fit = fit;
    } in
    let (a, named) = c.subjects.invariant.ahead s y has first subject in
    let (e, row, ends) = a.ahead.row in
    let p = err_from_is_err_and c.from_residual.result c.from_residual.ensures.1 in
    rw (p.1, p.2) (memory_says (Option Opened) ⊤ c.in_err-inner.field-0.0
    (c.in_err-inner.ensures.accepts a.nodes (e ++ y) a.ahead.left row
    (subjects_tag a.about c.args.around.language.now a.nodes a.entries e y a.are ends)))

pub returns-in_err-read_subject-clause-accepts : goal.returns-in_err-read_subject-clause-accepts
returns-in_err-read_subject-clause-accepts c s nodes u es y has ahead are fit subject =
    let first : SubjectsAhead c.args.around.language.now c.args.around.depth c.args.self.now.source y = record {
      nodes = nodes;
      about = u;
      entries = es;
      ahead = subst (λ (b : Bool). IsAhead b nodes c.args.self.now.source y) c.if-opened.false ahead;
      are = are;
      fit = fit;
    } in
    let (a, named) = c.subjects.invariant.ahead s y has first subject in
    let so = c.subjects.invariant.read s has ahead.left in
    let (white, is_white, found) = c.in_ok-inner.ensures.read so.moves.left in
    let tag = subst (λ (z : Option Opened). TagAfter z white c.subjects.self.source c.next_tag.new.self) c.in-Some.is found in
    let (t, start) = tag.is in
    let i = subject_ahead c.kinds_are_read.ensures c.args.around.language.now c.args.around.depth c.in-Some.inner white t c.subjects.self.source
    c.next_tag.new.self y a is_white tag start tag.moves.left in
    let fits = subject_tag c.kinds_are_read.ensures c.args.around.language.now c.args.around.depth c.in-Some.inner white t c.subjects.self.source
    c.next_tag.new.self y a is_white tag start in
    let p = err_from_is_err_and c.from_residual-in_err-read_subject.result c.from_residual-in_err-read_subject.ensures.1 in
    rw (p.1, p.2) (memory_says ⊤ ⊤ c.in_err-read_subject.field-0.0
    (c.in_err-read_subject.ensures.accepts (changed (with_entries so.entries) s) t i.nodes i.attributes i.entries i.tail so.has start.opened i.ahead
    fits i.is i.fit named))
