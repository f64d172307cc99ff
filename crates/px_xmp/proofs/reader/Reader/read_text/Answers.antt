use Rattle.std.proofs.Common.{◌≡◌, ◌++◌, true, false, not, Bool, Option, [], refl, subst, ◌∙◌, arith}
use Rattle.px_xmp_forms.specs.Outputs.{nothing, begun, with_text}
use Rattle.px_xmp_forms.specs.Forms.{is_white}
use Rattle.px_xmp.specs.Nodes.{Nothing, Words}
use Rattle.px_xmp.specs.Reading.{kind_view}
use Rattle.px_xmp.proofs.StepLaws.{joined, text_step, white_joined, moves_on, tag_started}
use Rattle.std.proofs.lemmas.Result.{err_from_is_err_and}
use Rattle.std.proofs.lemmas.Bool.{both_ways}
use Rattle.px_xmp_marks.specs.Reading.{start_tag_view}
use Rattle.px_xmp.specs.declared.marks.MarkKind.{MarkKind}
use Rattle.px_xmp.specs.declared.elements.Opened.{Opened}
use Rattle.px_xmp.specs.calls.Steps.{Next}
use Rattle.px_xmp.proofs.AheadLaws.{memory_says, none_some}
use Rattle.px_xmp.proofs.RefusedLaws.{white_front}
use Rattle.px_xmp.proofs.TagAheadLaws.{tag_ahead, first_mark, element_tag, white_fits, white_back}
use Rattle.px_xmp.proofs.LiteralLaws.{no_tag_kind, words_fit, text_no_start, blank_read, text_goes_on}
use Rattle.px_xmp.proofs.reader.Reader.read_text.Goals as goal

white_if : (b more : Bool) → more ≡ not b → more ≡ false → b ≡ true
white_if true more e f = refl
white_if false more e f = absurd (cc)

other_if : (b more : Bool) → more ≡ not b → more ≡ true → b ≡ true → ⊥
other_if true more e f h = absurd (cc)
other_if false more e f h = absurd (cc)

pub marks-init : goal.marks-init
marks-init c =
    record {
      within = omega (arith);
      scope = refl;
      read = λ s has left. (Nothing, [], refl, λ e. tt, λ e. absurd (both_ways false refl e), refl, record { left = left; same = refl }, has);
      failed_allocations = refl;
    }

pub marks-preserved-then-says-2 : goal.marks-preserved-then-says-2
marks-preserved-then-says-2 c =
    record {
      within = omega (arith, c.in-Some.ensures.shorter, c.marks.invariant.within);
      scope = c.next.ensures.scope ∙ c.marks.invariant.scope;
      read = λ s has left.
          let (nodes, text, is_text, white, other, octets, moves, now) = c.marks.invariant.read s has left in
          let (t, says, more, put) = c.in_ok-more-in_default-kind.ensures.value (begun (with_text text nothing) s) now (with_text text nothing) s.opened refl in
          let (texts, after, on) =
          text_step nodes c.args.self.now.source.scope c.args.self.now.source.at c.args.self.now.source.rest.now c.marks.self.source.at
          c.marks.self.source.rest.now c.next.new.self.at c.next.new.self.rest.now (kind_view c.in-Some.kind) text t is_text octets moves
          (c.in-Some.ensures.read moves.left) says in (
            joined nodes (Words t Nothing),
            text ++ t,
            texts,
            λ e. absurd (both_ways c.marks.says e c.if-says-2.true),
            λ e h. other c.if-says-2.true (white_back nodes (Words t Nothing) h),
            after,
            on,
            put,
          );
      failed_allocations = c.in_ok-more-in_default-kind.ensures.memory ∙ c.marks.invariant.failed_allocations;
    }

pub marks-preserved : goal.marks-preserved
marks-preserved c =
    record {
      within = omega (arith, c.in-Some.ensures.shorter, c.marks.invariant.within);
      scope = c.next.ensures.scope ∙ c.marks.invariant.scope;
      read = λ s has left.
          let (nodes, text, is_text, white, other, octets, moves, now) = c.marks.invariant.read s has left in
          let (t, says, more, put) = c.in_ok-more-in_default-kind.ensures.value (begun (with_text text nothing) s) now (with_text text nothing) s.opened refl in
          let (texts, after, on) =
          text_step nodes c.args.self.now.source.scope c.args.self.now.source.at c.args.self.now.source.rest.now c.marks.self.source.at
          c.marks.self.source.rest.now c.next.new.self.at c.next.new.self.rest.now (kind_view c.in-Some.kind) text t is_text octets moves
          (c.in-Some.ensures.read moves.left) says in (
            joined nodes (Words t Nothing),
            text ++ t,
            texts,
            λ e. white_joined nodes (Words t Nothing) (white c.if-says-2.false) (white_if (is_white t) c.in_ok-more-in_default-kind.more more e, tt),
            λ e h. other_if (is_white t) c.in_ok-more-in_default-kind.more more e (white_front nodes (Words t Nothing) h).0,
            after,
            on,
            put,
          );
      failed_allocations = c.in_ok-more-in_default-kind.ensures.memory ∙ c.marks.invariant.failed_allocations;
    }

pub returns-in-Start-clause-read : goal.returns-in-Start-clause-read
returns-in-Start-clause-read c s has left =
    let (nodes, text, is_text, white, other, octets, moves, now) = c.marks.invariant.read s has left in
    let next = c.in-Some.ensures.read moves.left in
    record {
      nodes = nodes;
      text = text;
      is_text = is_text;
      white = λ e. white c.if-says.false;
      after = record {
        at = c.marks.self.source.at;
        octets = c.marks.self.source.rest.now;
        row = octets;
        place = moves.same;
        is = tag_started c.in-Some.kind c.in-Start.tag c.in_ok-opened-in-Start.opened c.args.self.now.source.scope c.next.new.self.scope c.enter.new.self
            c.marks.self.source.at c.marks.self.source.rest.now c.next.new.self.at c.next.new.self.rest.now c.in-Start.is
            (c.next.ensures.scope ∙ c.marks.invariant.scope) next c.in_ok-opened-in-Start.ensures.scope c.in_ok-opened-in-Start.ensures.tag
            c.in_ok-opened-in-Start.ensures.empty c.in_ok-opened-in-Start.ensures.place;
        moves = moves_on c.args.self.now.source.at c.marks.self.source.at c.next.new.self.at c.args.self.now.source.rest.now
            c.marks.self.source.rest.now c.next.new.self.rest.now moves next.moves;
      };
      has = now;
    }

-- ---- a text

pub returns-in_default-clause-text : goal.returns-in_default-clause-text
returns-in_default-clause-text c s nodes t y has ahead text short =
    let old = c.args.self.now.source in
    let now = c.marks.self.source in
    let (e, row, ends) = ahead.row in
    let (so, said, is, white, other, octets, moves, has_now) = c.marks.invariant.read s has ahead.left in
    let (k, z, first) = text_goes_on c.kinds_are_read.ensures so nodes said t old.scope old.at now.at old.rest.now now.rest.now e y is octets row ends moves.same text in
    absurd (none_some c.next.result c.in_default.is (c.next.ensures.some k z first))

pub returns-in_err-opened-in-Start-clause-text : goal.returns-in_err-opened-in-Start-clause-text
returns-in_err-opened-in-Start-clause-text c s nodes t y has ahead text short =
    let old = c.args.self.now.source in
    let now = c.marks.self.source in
    let (e, row, ends) = ahead.row in
    let (so, said, is, white, other, octets, moves, has_now) = c.marks.invariant.read s has ahead.left in
    let next = subst (λ (z : MarkKind). Next (kind_view z) now.at now.rest.now c.next.new.self.at c.next.new.self.rest.now) c.in-Start.is
    (c.in-Some.ensures.read moves.left) in
    absurd (text_no_start c.kinds_are_read.ensures (start_tag_view c.in-Start.tag) so nodes said t old.scope old.at now.at c.next.new.self.at old.rest.now
    now.rest.now c.next.new.self.rest.now e y is octets row ends moves.same text next)

pub returns-then-says-clause-text : goal.returns-then-says-clause-text
returns-then-says-clause-text c s nodes t y has ahead text short =
    let old = c.args.self.now.source in
    let now = c.marks.self.source in
    let (e, row, ends) = ahead.row in
    let (so, said, is, white, other, octets, moves, has_now) = c.marks.invariant.read s has ahead.left in
    let next = subst (λ (z : MarkKind). Next (kind_view z) now.at now.rest.now c.next.new.self.at c.next.new.self.rest.now) c.in-Start.is
    (c.in-Some.ensures.read moves.left) in
    absurd (text_no_start c.kinds_are_read.ensures (start_tag_view c.in-Start.tag) so nodes said t old.scope old.at now.at c.next.new.self.at old.rest.now
    now.rest.now c.next.new.self.rest.now e y is octets row ends moves.same text next)

pub returns-in_err-more-in_default-kind-clause-text : goal.returns-in_err-more-in_default-kind-clause-text
returns-in_err-more-in_default-kind-clause-text c s nodes t y has ahead text short =
    let old = c.args.self.now.source in
    let now = c.marks.self.source in
    let (e, row, ends) = ahead.row in
    let (so, said, is, white, other, octets, moves, has_now) = c.marks.invariant.read s has ahead.left in
    let next = c.in-Some.ensures.read moves.left in
    let fits =
    words_fit c.kinds_are_read.ensures (kind_view c.in-Some.kind) so nodes said t old.scope old.at now.at c.next.new.self.at old.rest.now
    now.rest.now c.next.new.self.rest.now e y is octets row ends moves.same ahead.left.few text short next
    (no_tag_kind c.in-Some.kind c.in_default-kind.not-Start c.in_default-kind.not-End) in
    let p = err_from_is_err_and c.from_residual-in_err-more-in_default-kind.result c.from_residual-in_err-more-in_default-kind.ensures.1 in
    rw (p.1, p.2) (memory_says Bool (Option Opened) c.in_err-more-in_default-kind.field-0.0
    (c.in_err-more-in_default-kind.ensures.accepts (begun (with_text said nothing) s) (with_text said nothing) s.opened has_now refl fits))

-- ---- white space, and an element

pub returns-in_default-clause-node : goal.returns-in_default-clause-node
returns-in_default-clause-node c s nodes y has ahead element =
    let old = c.args.self.now.source in
    let now = c.marks.self.source in
    let (e, row, ends) = ahead.row in
    let (so, said, is, white, other, octets, moves, has_now) = c.marks.invariant.read s has ahead.left in
    let blank = blank_read c.kinds_are_read.ensures so nodes said old.scope old.at now.at old.rest.now now.rest.now e y is octets row ends moves.same element in
    let (more, others, tag) =
    tag_ahead c.kinds_are_read.ensures so nodes old.scope old.at now.at old.rest.now now.rest.now (e ++ y) blank octets row moves.same
    (element_tag nodes (e ++ y) element) in
    let (k, z, first) = first_mark more old.scope now.at now.rest.now (e ++ y) others tag in
    absurd (none_some c.next.result c.in_default.is (c.next.ensures.some k z first))

pub returns-in_err-opened-in-Start-clause-node : goal.returns-in_err-opened-in-Start-clause-node
returns-in_err-opened-in-Start-clause-node c s nodes y has ahead element =
    let p = err_from_is_err_and c.from_residual.result c.from_residual.ensures.1 in
    rw (p.1, p.2) (memory_says Opened (Option Opened) c.in_err-opened-in-Start.field-0.0 c.in_err-opened-in-Start.ensures.accepts)

pub returns-then-says-clause-node : goal.returns-then-says-clause-node
returns-then-says-clause-node c s nodes y has ahead element =
    let old = c.args.self.now.source in
    let now = c.marks.self.source in
    let (e, row, ends) = ahead.row in
    let (so, said, is, white, other, octets, moves, has_now) = c.marks.invariant.read s has ahead.left in
    absurd (other c.if-says.true
    (blank_read c.kinds_are_read.ensures so nodes said old.scope old.at now.at old.rest.now now.rest.now e y is octets row ends moves.same element))

pub returns-in_err-more-in_default-kind-clause-node : goal.returns-in_err-more-in_default-kind-clause-node
returns-in_err-more-in_default-kind-clause-node c s nodes y has ahead element =
    let old = c.args.self.now.source in
    let now = c.marks.self.source in
    let (e, row, ends) = ahead.row in
    let (so, said, is, white, other, octets, moves, has_now) = c.marks.invariant.read s has ahead.left in
    let blank = blank_read c.kinds_are_read.ensures so nodes said old.scope old.at now.at old.rest.now now.rest.now e y is octets row ends moves.same element in
    let fits =
    white_fits c.kinds_are_read.ensures c.only_references_are_read.ensures (kind_view c.in-Some.kind) so nodes said old.scope old.at now.at
    c.next.new.self.at old.rest.now now.rest.now c.next.new.self.rest.now (e ++ y) is blank octets moves.same ahead.left.few row element
    (c.in-Some.ensures.read moves.left) (no_tag_kind c.in-Some.kind c.in_default-kind.not-Start c.in_default-kind.not-End) in
    let p = err_from_is_err_and c.from_residual-in_err-more-in_default-kind.result c.from_residual-in_err-more-in_default-kind.ensures.1 in
    rw (p.1, p.2) (memory_says Bool (Option Opened) c.in_err-more-in_default-kind.field-0.0
    (c.in_err-more-in_default-kind.ensures.accepts (begun (with_text said nothing) s) (with_text said nothing) s.opened has_now refl fits))
