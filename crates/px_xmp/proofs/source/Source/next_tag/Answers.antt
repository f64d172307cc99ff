use Rattle.std.specs.Bool.{⊤}
use Rattle.px_xmp.specs.declared.elements.Opened.{Opened}
use Rattle.std.proofs.Common.{Option, [], refl, subst, ◌∙◌, arith}
use Rattle.px_xmp.specs.Reading as reading
use Rattle.px_xmp.specs.declared.marks.MarkKind.{MarkKind}
use Rattle.px_xmp.specs.calls.Steps.{Next}
use Rattle.px_xmp.proofs.RefusedLaws.{rare_says, wrong_says, text_begins}
use Rattle.px_xmp.proofs.AheadLaws.{memory_says, none_some}
use Rattle.px_xmp.proofs.TagAheadLaws.{tag_ahead, first_mark, next_white}
use Rattle.px_xmp.specs.Reading.{kind_view}
use Rattle.px_xmp.proofs.StepLaws.{white_step, moves_on, tag_started, tag_ended}
use Rattle.std.proofs.lemmas.Result.{err_from_is_err_and}
use Rattle.px_xmp.proofs.source.Source.next_tag.Goals as goal

pub marks-preserved-in_ok-judge_blank-in-Text : goal.marks-preserved-in_ok-judge_blank-in-Text
marks-preserved-in_ok-judge_blank-in-Text c =
    record {
      within = omega (arith, c.in-Some.ensures.shorter, c.marks.invariant.within);
      scope = c.next.ensures.scope ∙ c.marks.invariant.scope;
      read = λ left.
          let (white, is_white, octets, moves) = c.marks.invariant.read left in
          let (t, says, blank) = c.in_ok-judge_blank-in-Text.ensures.says in
          let next =
          subst (λ (z : MarkKind). Next (kind_view z) c.marks.self.at c.marks.self.rest.now c.next.new.self.at c.next.new.self.rest.now) c.in-Text.is
          (c.in-Some.ensures.read moves.left) in
          white_step white c.args.self.now.scope c.args.self.now.at c.args.self.now.rest.now c.marks.self.at c.marks.self.rest.now
          c.next.new.self.at c.next.new.self.rest.now _ t is_white octets moves next says blank;
      failed_allocations = c.in_ok-judge_blank-in-Text.ensures.memory ∙ c.marks.invariant.failed_allocations;
    }

pub marks-preserved : goal.marks-preserved
marks-preserved c =
    record {
      within = omega (arith, c.in-Some.ensures.shorter, c.marks.invariant.within);
      scope = c.next.ensures.scope ∙ c.marks.invariant.scope;
      read = λ left.
          let (white, is_white, octets, moves) = c.marks.invariant.read left in
          let next =
          subst (λ (z : MarkKind). Next (kind_view z) c.marks.self.at c.marks.self.rest.now c.next.new.self.at c.next.new.self.rest.now) c.in-Other.is
          (c.in-Some.ensures.read moves.left) in
          white_step white c.args.self.now.scope c.args.self.now.at c.args.self.now.rest.now c.marks.self.at c.marks.self.rest.now
          c.next.new.self.at c.next.new.self.rest.now reading.Other [] is_white octets moves next refl refl;
      failed_allocations = c.marks.invariant.failed_allocations;
    }

pub returns-in-Start-clause-read : goal.returns-in-Start-clause-read
returns-in-Start-clause-read c left =
    let (white, is_white, octets, moves) = c.marks.invariant.read left in
    let next = c.in-Some.ensures.read moves.left in (
      white,
      is_white,
      record {
        at = c.marks.self.at;
        octets = c.marks.self.rest.now;
        row = octets;
        place = moves.same;
        is = tag_started c.in-Some.kind c.in-Start.tag c.in_ok-enter-in-Start.field-0 c.args.self.now.scope c.next.new.self.scope c.enter.new.self
            c.marks.self.at c.marks.self.rest.now c.next.new.self.at c.next.new.self.rest.now c.in-Start.is
            (c.next.ensures.scope ∙ c.marks.invariant.scope) next c.in_ok-enter-in-Start.ensures.scope c.in_ok-enter-in-Start.ensures.tag
            c.in_ok-enter-in-Start.ensures.empty c.in_ok-enter-in-Start.ensures.place;
        moves = moves_on c.args.self.now.at c.marks.self.at c.next.new.self.at c.args.self.now.rest.now c.marks.self.rest.now
            c.next.new.self.rest.now moves next.moves;
      },
    )

pub returns-in-End-clause-read : goal.returns-in-End-clause-read
returns-in-End-clause-read c left =
    let (white, is_white, octets, moves) = c.marks.invariant.read left in
    let next = c.in-Some.ensures.read moves.left in (
      white,
      is_white,
      record {
        at = c.marks.self.at;
        octets = c.marks.self.rest.now;
        row = octets;
        place = moves.same;
        is = (
          tag_ended c.in-Some.kind c.marks.self.at c.marks.self.rest.now c.next.new.self.at c.next.new.self.rest.now c.in-End.is next,
          c.next.ensures.scope ∙ c.marks.invariant.scope,
        );
        moves = moves_on c.args.self.now.at c.marks.self.at c.next.new.self.at c.args.self.now.rest.now c.marks.self.rest.now
            c.next.new.self.rest.now moves next.moves;
      },
    )

pub returns-in_err-enter-in-Start-clause-refused : goal.returns-in_err-enter-in-Start-clause-refused
returns-in_err-enter-in-Start-clause-refused c left =
    let p = err_from_is_err_and c.from_residual.result c.from_residual.ensures.1 in
    rw (p.1, p.2) (rare_says Opened (Option Opened) c.in_err-enter-in-Start.field-0.0 _ c.in_err-enter-in-Start.ensures.rare)

pub returns-in_err-judge_blank-in-Text-clause-refused : goal.returns-in_err-judge_blank-in-Text-clause-refused
returns-in_err-judge_blank-in-Text-clause-refused c left =
    let (white, is_white, octets, moves) = c.marks.invariant.read left in
    let next =
    subst (λ (z : MarkKind). Next (kind_view z) c.marks.self.at c.marks.self.rest.now c.next.new.self.at c.next.new.self.rest.now) c.in-Text.is
    (c.in-Some.ensures.read moves.left) in
    let p = err_from_is_err_and c.from_residual-in_err-judge_blank-in-Text.result c.from_residual-in_err-judge_blank-in-Text.ensures.1 in
    rw (p.1, p.2) (wrong_says ⊤ (Option Opened) c.in_err-judge_blank-in-Text.field-0.0 _ _ (text_begins white c.args.self.now.scope c.args.self.now.at c.marks.self.at c.next.new.self.at c.args.self.now.rest.now
    c.marks.self.rest.now c.next.new.self.rest.now c.in-Text.text.kind c.in-Text.text.octets.now is_white octets moves.same next)
    c.in_err-judge_blank-in-Text.ensures.refused)

-- ---- a tag ahead

pub returns-in_default-clause-accepts : goal.returns-in_default-clause-accepts
returns-in_default-clause-accepts c nodes y left row tag =
    let old = c.args.self.now in
    let now = c.marks.self in
    let (white, is_white, octets, moves) = c.marks.invariant.read left in
    let (more, others, ahead) =
    tag_ahead c.kinds_are_read.ensures white nodes old.scope old.at now.at old.rest.now now.rest.now y is_white octets row moves.same tag in
    let (k, z, first) = first_mark more old.scope now.at now.rest.now y others ahead in
    absurd (none_some c.next.result c.in_default.is (c.next.ensures.some k z first))

pub returns-in_err-enter-in-Start-clause-accepts : goal.returns-in_err-enter-in-Start-clause-accepts
returns-in_err-enter-in-Start-clause-accepts c nodes y left row tag =
    let p = err_from_is_err_and c.from_residual.result c.from_residual.ensures.1 in
    rw (p.1, p.2) (memory_says Opened (Option Opened) c.in_err-enter-in-Start.field-0.0 c.in_err-enter-in-Start.ensures.accepts)

pub returns-in_err-judge_blank-in-Text-clause-accepts : goal.returns-in_err-judge_blank-in-Text-clause-accepts
returns-in_err-judge_blank-in-Text-clause-accepts c nodes y left row tag =
    let old = c.args.self.now in
    let now = c.marks.self in
    let (white, is_white, octets, moves) = c.marks.invariant.read left in
    let (more, others, ahead) =
    tag_ahead c.kinds_are_read.ensures white nodes old.scope old.at now.at old.rest.now now.rest.now y is_white octets row moves.same tag in
    let next =
    subst (λ (z : MarkKind). Next (kind_view z) now.at now.rest.now c.next.new.self.at c.next.new.self.rest.now) c.in-Text.is
    (c.in-Some.ensures.read moves.left) in
    let says =
    next_white c.kinds_are_read.ensures (reading.Words c.in-Text.text.kind c.in-Text.text.octets.now) more old.scope now.at c.next.new.self.at now.rest.now
    c.next.new.self.rest.now y next others ahead (λ h. h) moves.left.few in
    let p = err_from_is_err_and c.from_residual-in_err-judge_blank-in-Text.result c.from_residual-in_err-judge_blank-in-Text.ensures.1 in
    rw (p.1, p.2) (memory_says ⊤ (Option Opened) c.in_err-judge_blank-in-Text.field-0.0 (c.in_err-judge_blank-in-Text.ensures.accepts says))
