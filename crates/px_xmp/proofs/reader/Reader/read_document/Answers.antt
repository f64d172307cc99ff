use Rattle.std.specs.Bool.{⊤}
use Rattle.std.proofs.Common.{Option, [], inl, refl, subst}
use Rattle.px_xmp.specs.Nodes.{Nothing, Element}
use Rattle.px_xmp.specs.Meaning.{IsRootOf, HasRoot, IsRdf}
use Rattle.px_xmp.specs.Refusals.{IsNamedRdf}
use Rattle.std.proofs.lemmas.Result.{on_ok_weaker}
use Rattle.px_xmp.specs.declared.elements.Opened.{Opened}
use Rattle.px_xmp.specs.calls.Steps.{TagAfter}
use Rattle.px_xmp.proofs.RootLaws.{document_done, document_subject}
use Rattle.px_xmp.proofs.reader.Reader.read_document.Goals as goal
use Rattle.std.proofs.lemmas.Result.{err_from_is_err_and}
use Rattle.px_xmp.proofs.AheadLaws.{memory_says, element_entered, inside_ahead}
use Rattle.px_xmp.proofs.SubjectLaws.{alone_tag}
use Rattle.px_xmp.proofs.RefusedLaws.{text_found, alone_text, alone_front, white_at_end, enter_after, row_after, alone_inside, wrong_says, wrong_weaker, wrong_at}

pub returns-clause-read : goal.returns-clause-read
returns-clause-read c has left fresh =
    let (white, is_white, first) = c.in_ok-opened.ensures.read left in
    let tag = subst (λ (z : Option Opened). TagAfter z white c.args.self.now.source c.next_tag.new.self) c.in-Some.is first in
    let (t, start) = tag.is in
    let root = c.in_ok-read_root.ensures.read t has first.moves.left fresh start.opened in
    on_ok_weaker c.read_after.result
    (λ last. document_done c.in-Some.opened white c.args.self.now.source c.next_tag.new.self c.read_root.new.self.source
    c.read_root.new.subject c.read_root.new.self.output is_white tag
    (λ u opened. c.in_ok-read_root.ensures.read u has first.moves.left fresh opened) (λ e. last))
    (c.read_after.ensures.read root.inside.moves.left)

pub returns-in_err-opened-clause-refused : goal.returns-in_err-opened-clause-refused
returns-in_err-opened-clause-refused c nodes has left fresh row =
    let old = c.args.self.now.source in
    let p = err_from_is_err_and c.from_residual.result c.from_residual.ensures.1 in
    rw (p.1, p.2) (wrong_says (Option Opened) ⊤ c.in_err-opened.field-0.0 _ _ (λ begins h.
    let (bad, z, text, octets) = begins in
    alone_text (IsRootOf IsNamedRdf) nodes (text_found c.kinds_are_read.ensures bad nodes old.scope old.at old.at old.rest.now z [] text octets row (inl refl)) h)
    (c.in_err-opened.ensures.refused left))

pub returns-in_default-clause-refused : goal.returns-in_default-clause-refused
returns-in_default-clause-refused c nodes has left fresh row =
    let (white, is_white, first) = c.in_ok-opened.ensures.read left in
    let tag = subst (λ (z : Option Opened). TagAfter z white c.args.self.now.source c.next_tag.new.self) c.in_default.is first in
    let whole = white_at_end c.kinds_are_read.ensures white nodes c.args.self.now.source c.next_tag.new.self [] is_white tag row (inl refl) in
    wrong_at ⊤ _ _ _ _ c.at.ensures (λ h. alone_front (IsRootOf IsNamedRdf) white Nothing is_white (subst (HasRoot IsNamedRdf) whole h))

pub returns-in_err-read_root-clause-refused : goal.returns-in_err-read_root-clause-refused
returns-in_err-read_root-clause-refused c nodes has left fresh row =
    let old = c.args.self.now.source in
    let mid = c.next_tag.new.self in
    let (white, is_white, first) = c.in_ok-opened.ensures.read left in
    let tag = subst (λ (z : Option Opened). TagAfter z white old mid) c.in-Some.is first in
    let (t, start) = tag.is in
    let entered = enter_after c.kinds_are_read.ensures c.in-Some.opened white t nodes old mid [] is_white tag start row (inl refl) in
    let p = err_from_is_err_and c.from_residual-in_err-read_root.result c.from_residual-in_err-read_root.ensures.1 in
    rw (p.1, p.2) (wrong_says ⊤ ⊤ c.in_err-read_root.field-0.0 _ _ (λ wrong h. wrong (alone_inside (IsRootOf IsNamedRdf) c.in-Some.opened white t nodes old mid [] entered is_white h).0)
    (c.in_err-read_root.ensures.refused t entered.entered.content entered.entered.tail has first.moves.left fresh start.opened entered.entered.within))

pub returns-clause-refused : goal.returns-clause-refused
returns-clause-refused c nodes has left fresh row =
    let old = c.args.self.now.source in
    let mid = c.next_tag.new.self in
    let on = c.read_root.new.self.source in
    let (white, is_white, first) = c.in_ok-opened.ensures.read left in
    let tag = subst (λ (z : Option Opened). TagAfter z white old mid) c.in-Some.is first in
    let (t, start) = tag.is in
    let entered = enter_after c.kinds_are_read.ensures c.in-Some.opened white t nodes old mid [] is_white tag start row (inl refl) in
    let root = c.in_ok-read_root.ensures.read t has first.moves.left fresh start.opened in
    let others = row_after c.kinds_are_read.ensures c.in-Some.opened white t entered.left root.nodes old mid on [] tag start entered.entered root.inside root.scope in
    wrong_weaker _ c.read_after.result _ _ (λ wrong h. wrong (alone_inside (IsRootOf IsNamedRdf) c.in-Some.opened white t nodes old mid [] entered is_white h).1)
    (c.read_after.ensures.refused entered.entered.more root.inside.moves.left others)

pub returns-clause-subject : goal.returns-clause-subject
returns-clause-subject c nodes has left fresh row =
    let (white, is_white, first) = c.in_ok-opened.ensures.read left in
    let tag = subst (λ (z : Option Opened). TagAfter z white c.args.self.now.source c.next_tag.new.self) c.in-Some.is first in
    let (t, start) = tag.is in
    let root = c.in_ok-read_root.ensures.read t has first.moves.left fresh start.opened in
    on_ok_weaker c.read_after.result
    (λ last. document_subject c.kinds_are_read.ensures c.in-Some.opened white c.args.self.now.source c.next_tag.new.self c.read_root.new.self.source
    c.read_root.new.subject c.read_root.new.self.output nodes is_white tag
    (λ u opened. c.in_ok-read_root.ensures.read u has first.moves.left fresh opened) (λ e. last) row)
    (c.read_after.ensures.read root.inside.moves.left)

pub returns-in_err-opened-clause-accepts : goal.returns-in_err-opened-clause-accepts
returns-in_err-opened-clause-accepts c nodes d has left fresh row fit is fits =
    let p = err_from_is_err_and c.from_residual.result c.from_residual.ensures.1 in
    rw (p.1, p.2) (memory_says (Option Opened) ⊤ c.in_err-opened.field-0.0
    (c.in_err-opened.ensures.accepts nodes [] left row (alone_tag (IsRootOf (IsRdf d)) nodes [] is)))

pub returns-in_default-clause-accepts : goal.returns-in_default-clause-accepts
returns-in_default-clause-accepts c nodes d has left fresh row fit is fits =
    let (white, is_white, first) = c.in_ok-opened.ensures.read left in
    let tag = subst (λ (z : Option Opened). TagAfter z white c.args.self.now.source c.next_tag.new.self) c.in_default.is first in
    let whole = white_at_end c.kinds_are_read.ensures white nodes c.args.self.now.source c.next_tag.new.self [] is_white tag row (inl refl) in
    absurd (alone_front (IsRootOf (IsRdf d)) white Nothing is_white (subst (HasRoot (IsRdf d)) whole is))

pub returns-in_err-read_root-clause-accepts : goal.returns-in_err-read_root-clause-accepts
returns-in_err-read_root-clause-accepts c nodes d has left fresh row fit is fits =
    let old = c.args.self.now.source in
    let mid = c.next_tag.new.self in
    let (white, is_white, first) = c.in_ok-opened.ensures.read left in
    let tag = subst (λ (z : Option Opened). TagAfter z white old mid) c.in-Some.is first in
    let (t, start) = tag.is in
    let at = element_entered c.kinds_are_read.ensures c.in-Some.opened white t nodes old mid [] fit is_white tag start row (inl refl) in
    let (root, blank) = alone_front (IsRootOf (IsRdf d)) white (Element t c.in-Some.opened.place at.entered.content at.entered.more) is_white
    (subst (HasRoot (IsRdf d)) at.is is) in
    let p = err_from_is_err_and c.from_residual-in_err-read_root.result c.from_residual-in_err-read_root.ensures.1 in
    rw (p.1, p.2) (memory_says ⊤ ⊤ c.in_err-read_root.field-0.0
    (c.in_err-read_root.ensures.accepts t at.entered.content d at.entered.tail has fresh start.opened
    (inside_ahead c.in-Some.opened white t nodes old mid [] at tag.moves.left) at.fit.0 root fits))

pub returns-clause-accepts : goal.returns-clause-accepts
returns-clause-accepts c nodes d has left fresh row fit is fits =
    let old = c.args.self.now.source in
    let mid = c.next_tag.new.self in
    let (white, is_white, first) = c.in_ok-opened.ensures.read left in
    let tag = subst (λ (z : Option Opened). TagAfter z white old mid) c.in-Some.is first in
    let (t, start) = tag.is in
    let at = element_entered c.kinds_are_read.ensures c.in-Some.opened white t nodes old mid [] fit is_white tag start row (inl refl) in
    let (root, blank) = alone_front (IsRootOf (IsRdf d)) white (Element t c.in-Some.opened.place at.entered.content at.entered.more) is_white
    (subst (HasRoot (IsRdf d)) at.is is) in
    let read = c.in_ok-read_root.ensures.read t has tag.moves.left fresh start.opened in
    let others = row_after c.kinds_are_read.ensures c.in-Some.opened white t at.left read.nodes old mid c.read_root.new.self.source [] tag start at.entered
    read.inside read.scope in
    c.read_after.ensures.accepts at.entered.more read.inside.moves.left others blank
