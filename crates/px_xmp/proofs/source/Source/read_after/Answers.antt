use Rattle.std.specs.Bool.{⊤}
use Rattle.std.proofs.Common.{◌==◌, ◌∙◌, ℕ, List, [], length, refl, sym, ap, inl, subst}
use Rattle.px_xmp.specs.Reading.{kind_view}
use Rattle.px_xmp.proofs.StepLaws.{white_step}
use Rattle.px_xmp.proofs.source.Source.read_after.Goals as goal
use Rattle.std.proofs.lemmas.Result.{err_from_is_err_and}
use Rattle.std.proofs.lemmas.Bool.{both_ways}
use Rattle.px_xmp.proofs.RefusedLaws.{after_refused, white_passed, white_front, wrong_says}
use Rattle.px_xmp.specs.Meaning.{AreWhite}
use Rattle.px_xmp.proofs.TagAheadLaws.{last_mark, last_white}
use Rattle.px_xmp.proofs.AheadLaws.{memory_says, none_some}

pub loop-place-preserved : goal.loop-place-preserved
loop-place-preserved c =
    record {
      read = λ left.
          let (white, is_white, octets, moves) = c.loop-place.invariant.read left in
          let (t, says, blank) = c.in_ok-judge_white.ensures.says in
          white_step white c.args.self.now.scope c.args.self.now.at c.args.self.now.rest.now c.loop-place.self.at c.loop-place.self.rest.now
          c.next.new.self.at c.next.new.self.rest.now (kind_view c.in-Some.kind) t is_white octets moves (c.in-Some.ensures.read moves.left) says blank;
      failed_allocations = c.in_ok-judge_white.ensures.memory ∙ c.loop-place.invariant.failed_allocations;
    }

pub returns-in_err-judge_white-clause-refused : goal.returns-in_err-judge_white-clause-refused
returns-in_err-judge_white-clause-refused c nodes left row =
    let old = c.args.self.now in
    let now = c.loop-place.self in
    let (white, is_white, octets, moves) = c.loop-place.invariant.read left in
    let p = err_from_is_err_and c.from_residual.result c.from_residual.ensures.1 in
    rw (p.1, p.2) (wrong_says ⊤ ⊤ c.in_err-judge_white.field-0.0 _ _ (after_refused c.kinds_are_read.ensures (kind_view c.in-Some.kind) white nodes old.scope old.at now.at c.next.new.self.at
    old.rest.now now.rest.now c.next.new.self.rest.now is_white octets moves.same row (c.in-Some.ensures.read moves.left))
    c.in_err-judge_white.ensures.refused)

-- ---- white space up to the end

pub returns-in_err-judge_white-clause-accepts : goal.returns-in_err-judge_white-clause-accepts
returns-in_err-judge_white-clause-accepts c nodes left row blank =
    let old = c.args.self.now in
    let now = c.loop-place.self in
    let (white, is_white, octets, moves) = c.loop-place.invariant.read left in
    let (more, whole, others) =
    white_passed c.kinds_are_read.ensures white nodes old.scope old.at now.at old.rest.now now.rest.now [] is_white octets row moves.same (inl refl) in
    let says =
    last_white c.kinds_are_read.ensures (kind_view c.in-Some.kind) more old.scope now.at c.next.new.self.at now.rest.now c.next.new.self.rest.now
    (c.in-Some.ensures.read moves.left) others (white_front white more (subst AreWhite whole blank)) moves.left.few in
    let p = err_from_is_err_and c.from_residual.result c.from_residual.ensures.1 in
    rw (p.1, p.2) (memory_says ⊤ ⊤ c.in_err-judge_white.field-0.0 (c.in_err-judge_white.ensures.accepts says))

pub returns-in_default-clause-accepts : goal.returns-in_default-clause-accepts
returns-in_default-clause-accepts c nodes left row blank =
    let old = c.args.self.now in
    let now = c.loop-place.self in
    let (white, is_white, octets, moves) = c.loop-place.invariant.read left in
    let (more, whole, others) =
    white_passed c.kinds_are_read.ensures white nodes old.scope old.at now.at old.rest.now now.rest.now [] is_white octets row moves.same (inl refl) in
    let (k, z, first) =
    last_mark more old.scope now.at now.rest.now others (white_front white more (subst AreWhite whole blank)) (λ e. absurd (both_ways (length now.rest.now == 0) (sym c.is_empty.ensures ∙ c.loop-place-test.true) (ap (λ (q : List ℕ). length q == 0) e))) in
    absurd (none_some c.next.result c.in_default.is (c.next.ensures.some k z first))
