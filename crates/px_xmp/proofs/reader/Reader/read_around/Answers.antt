use Rattle.std.specs.Bool.{⊤}
use Rattle.std.proofs.Common.{Option, ◌++◌, codes, inr, refl, subst}
use Rattle.px_xmp.specs.Names.{is_rdf}
use Rattle.px_xmp.specs.Nodes.{Nothing, Element}
use Rattle.px_xmp.specs.Meaning.{IsAlone, IsRdf}
use Rattle.px_xmp.specs.Refusals.{IsNamedRdf}
use Rattle.px_xmp.proofs.NodeLaws.{IsStop}
use Rattle.px_xmp.specs.declared.elements.Opened.{Opened}
use Rattle.px_xmp.specs.calls.Steps.{TagAfter}
use Rattle.px_xmp.proofs.RootLaws.{around_done}
use Rattle.px_xmp.proofs.reader.Reader.read_around.Goals as goal
use Rattle.std.proofs.lemmas.Result.{err_from_is_err_and}
use Rattle.std.proofs.lemmas.Bool.{both_ways}
use Rattle.px_xmp.proofs.AheadLaws.{memory_says, element_entered, inside_ahead}
use Rattle.px_xmp.proofs.SubjectLaws.{alone_tag}
use Rattle.px_xmp.proofs.TagAheadLaws.{white_tag}
use Rattle.px_xmp.proofs.RefusedLaws.{text_found, alone_text, white_text, alone_front, white_at_end, enter_after, row_after, alone_inside, white_inside, wrong_says, wrong_at}

pub returns-in-None-clause-read : goal.returns-in-None-clause-read
returns-in-None-clause-read c has left fresh =
    let (white, is_white, first) = c.in_ok-inner.ensures.read left in
    let tag = subst (λ (z : Option Opened). TagAfter z white c.args.self.now.source c.next_tag.new.self) c.in-Some.is first in
    let (t, start) = tag.is in
    let rdf = c.in_ok-read_rdf.ensures.read t has first.moves.left fresh start.opened in
    let (blank, is_blank, last) = c.in_ok-second.ensures.read rdf.inside.moves.left in
    around_done c.in-Some.inner white blank c.args.self.now.source c.next_tag.new.self c.read_rdf.new.self.source c.next_tag-2.new.self
    c.read_rdf.new.subject c.read_rdf.new.self.output is_white tag
    (λ u opened. c.in_ok-read_rdf.ensures.read u has first.moves.left fresh opened) is_blank
    (subst (λ (z : Option Opened). TagAfter z blank c.read_rdf.new.self.source c.next_tag-2.new.self) c.in-None.is last)

pub returns-in_err-inner-clause-refused : goal.returns-in_err-inner-clause-refused
returns-in_err-inner-clause-refused c nodes y has left fresh (e, row, ends) =
    let old = c.args.self.now.source in
    let p = err_from_is_err_and c.from_residual.result c.from_residual.ensures.1 in
    rw (p.1, p.2) (wrong_says (Option Opened) ⊤ c.in_err-inner.field-0.0 _ _ (λ begins h.
    let (bad, z, text, octets) = begins in
    alone_text IsNamedRdf nodes (text_found c.kinds_are_read.ensures bad nodes old.scope old.at old.at old.rest.now z (e ++ y) text octets row
    (inr (e, y, ends, refl))) h) (c.in_err-inner.ensures.refused left))

pub returns-in_default-clause-refused : goal.returns-in_default-clause-refused
returns-in_default-clause-refused c nodes y has left fresh (e, row, ends) =
    let (white, is_white, first) = c.in_ok-inner.ensures.read left in
    let tag = subst (λ (z : Option Opened). TagAfter z white c.args.self.now.source c.next_tag.new.self) c.in_default.is first in
    let whole = white_at_end c.kinds_are_read.ensures white nodes c.args.self.now.source c.next_tag.new.self (e ++ y) is_white tag row (inr (e, y, ends, refl)) in
    wrong_at ⊤ _ _ _ _ c.at.ensures (λ h. alone_front IsNamedRdf white Nothing is_white (subst (IsAlone IsNamedRdf) whole h))

pub returns-in_err-read_rdf-clause-refused : goal.returns-in_err-read_rdf-clause-refused
returns-in_err-read_rdf-clause-refused c nodes y has left fresh (e, row, ends) =
    let old = c.args.self.now.source in
    let mid = c.next_tag.new.self in
    let (white, is_white, first) = c.in_ok-inner.ensures.read left in
    let tag = subst (λ (z : Option Opened). TagAfter z white old mid) c.in-Some.is first in
    let (t, start) = tag.is in
    let entered = enter_after c.kinds_are_read.ensures c.in-Some.inner white t nodes old mid (e ++ y) is_white tag start row (inr (e, y, ends, refl)) in
    let p = err_from_is_err_and c.from_residual-in_err-read_rdf.result c.from_residual-in_err-read_rdf.ensures.1 in
    rw (p.1, p.2) (wrong_says ⊤ ⊤ c.in_err-read_rdf.field-0.0 _ _ (λ wrong h. absurd (both_ways (is_rdf (codes "RDF") t.name) wrong
    (alone_inside IsNamedRdf c.in-Some.inner white t nodes old mid (e ++ y) entered is_white h).0)) (c.in_err-read_rdf.ensures.refused t start.opened))

pub returns-in_err-second-clause-refused : goal.returns-in_err-second-clause-refused
returns-in_err-second-clause-refused c nodes y has left fresh (e, row, ends) =
    let old = c.args.self.now.source in
    let mid = c.next_tag.new.self in
    let on = c.read_rdf.new.self.source in
    let (white, is_white, first) = c.in_ok-inner.ensures.read left in
    let tag = subst (λ (z : Option Opened). TagAfter z white old mid) c.in-Some.is first in
    let (t, start) = tag.is in
    let stop : IsStop (e ++ y) = inr (e, y, ends, refl) in
    let entered = enter_after c.kinds_are_read.ensures c.in-Some.inner white t nodes old mid (e ++ y) is_white tag start row stop in
    let rdf = c.in_ok-read_rdf.ensures.read t has first.moves.left fresh start.opened in
    let others = row_after c.kinds_are_read.ensures c.in-Some.inner white t entered.left rdf.nodes old mid on (e ++ y) tag start entered.entered rdf.inside rdf.scope in
    let p = err_from_is_err_and c.from_residual-in_err-second.result c.from_residual-in_err-second.ensures.1 in
    rw (p.1, p.2) (wrong_says (Option Opened) ⊤ c.in_err-second.field-0.0 _ _ (λ begins h.
    let (bad, z, text, octets) = begins in
    white_text entered.entered.more (text_found c.kinds_are_read.ensures bad entered.entered.more on.scope on.at on.at on.rest.now z (e ++ y) text octets
    others stop) (alone_inside IsNamedRdf c.in-Some.inner white t nodes old mid (e ++ y) entered is_white h).1)
    (c.in_err-second.ensures.refused rdf.inside.moves.left))

pub returns-in-Some-2-clause-refused : goal.returns-in-Some-2-clause-refused
returns-in-Some-2-clause-refused c nodes y has left fresh (e, row, ends) =
    let old = c.args.self.now.source in
    let mid = c.next_tag.new.self in
    let on = c.read_rdf.new.self.source in
    let new = c.next_tag-2.new.self in
    let (white, is_white, first) = c.in_ok-inner.ensures.read left in
    let tag = subst (λ (z : Option Opened). TagAfter z white old mid) c.in-Some.is first in
    let (t, start) = tag.is in
    let stop : IsStop (e ++ y) = inr (e, y, ends, refl) in
    let entered = enter_after c.kinds_are_read.ensures c.in-Some.inner white t nodes old mid (e ++ y) is_white tag start row stop in
    let rdf = c.in_ok-read_rdf.ensures.read t has first.moves.left fresh start.opened in
    let others = row_after c.kinds_are_read.ensures c.in-Some.inner white t entered.left rdf.nodes old mid on (e ++ y) tag start entered.entered rdf.inside rdf.scope in
    let (blank, is_blank, last) = c.in_ok-second.ensures.read rdf.inside.moves.left in
    let again = subst (λ (z : Option Opened). TagAfter z blank on new) c.in-Some-2.is last in
    let (u, begin) = again.is in
    let second = enter_after c.kinds_are_read.ensures c.in-Some-2.second blank u entered.entered.more on new (e ++ y) is_blank again begin others stop in
    wrong_at ⊤ _ _ _ _ c.at-in-Some-2.ensures (λ h. white_inside c.in-Some-2.second blank u entered.entered.more on new (e ++ y) second
    (alone_inside IsNamedRdf c.in-Some.inner white t nodes old mid (e ++ y) entered is_white h).1)

pub returns-in_err-inner-clause-accepts : goal.returns-in_err-inner-clause-accepts
returns-in_err-inner-clause-accepts c nodes d y has fresh ahead is fits =
    let (e, row, ends) = ahead.row in
    let p = err_from_is_err_and c.from_residual.result c.from_residual.ensures.1 in
    rw (p.1, p.2) (memory_says (Option Opened) ⊤ c.in_err-inner.field-0.0
    (c.in_err-inner.ensures.accepts nodes (e ++ y) ahead.left row (alone_tag (IsRdf d) nodes (e ++ y) is)))

pub returns-in_default-clause-accepts : goal.returns-in_default-clause-accepts
returns-in_default-clause-accepts c nodes d y has fresh ahead is fits =
    let (e, row, ends) = ahead.row in
    let (white, is_white, first) = c.in_ok-inner.ensures.read ahead.left in
    let tag = subst (λ (z : Option Opened). TagAfter z white c.args.self.now.source c.next_tag.new.self) c.in_default.is first in
    let whole = white_at_end c.kinds_are_read.ensures white nodes c.args.self.now.source c.next_tag.new.self (e ++ y) is_white tag row (inr (e, y, ends, refl)) in
    absurd (alone_front (IsRdf d) white Nothing is_white (subst (IsAlone (IsRdf d)) whole is))

pub returns-in_err-read_rdf-clause-accepts : goal.returns-in_err-read_rdf-clause-accepts
returns-in_err-read_rdf-clause-accepts c nodes d y has fresh ahead is fits =
    let old = c.args.self.now.source in
    let mid = c.next_tag.new.self in
    let (e, row, ends) = ahead.row in
    let (white, is_white, first) = c.in_ok-inner.ensures.read ahead.left in
    let tag = subst (λ (z : Option Opened). TagAfter z white old mid) c.in-Some.is first in
    let (t, start) = tag.is in
    let stop : IsStop (e ++ y) = inr (e, y, ends, refl) in
    let at = element_entered c.kinds_are_read.ensures c.in-Some.inner white t nodes old mid (e ++ y) ahead.fit is_white tag start row stop in
    let (rdf, blank) = alone_front (IsRdf d) white (Element t c.in-Some.inner.place at.entered.content at.entered.more) is_white
    (subst (IsAlone (IsRdf d)) at.is is) in
    let p = err_from_is_err_and c.from_residual-in_err-read_rdf.result c.from_residual-in_err-read_rdf.ensures.1 in
    rw (p.1, p.2) (memory_says ⊤ ⊤ c.in_err-read_rdf.field-0.0
    (c.in_err-read_rdf.ensures.accepts t at.entered.content d at.entered.tail has fresh start.opened
    (inside_ahead c.in-Some.inner white t nodes old mid (e ++ y) at tag.moves.left) at.fit.0 rdf fits))

pub returns-in_err-second-clause-accepts : goal.returns-in_err-second-clause-accepts
returns-in_err-second-clause-accepts c nodes d y has fresh ahead is fits =
    let old = c.args.self.now.source in
    let mid = c.next_tag.new.self in
    let (e, row, ends) = ahead.row in
    let (white, is_white, first) = c.in_ok-inner.ensures.read ahead.left in
    let tag = subst (λ (z : Option Opened). TagAfter z white old mid) c.in-Some.is first in
    let (t, start) = tag.is in
    let stop : IsStop (e ++ y) = inr (e, y, ends, refl) in
    let at = element_entered c.kinds_are_read.ensures c.in-Some.inner white t nodes old mid (e ++ y) ahead.fit is_white tag start row stop in
    let (rdf, blank) = alone_front (IsRdf d) white (Element t c.in-Some.inner.place at.entered.content at.entered.more) is_white
    (subst (IsAlone (IsRdf d)) at.is is) in
    let read = c.in_ok-read_rdf.ensures.read t has tag.moves.left fresh start.opened in
    let others = row_after c.kinds_are_read.ensures c.in-Some.inner white t at.left read.nodes old mid c.read_rdf.new.self.source (e ++ y) tag start
    at.entered read.inside read.scope in
    let p = err_from_is_err_and c.from_residual-in_err-second.result c.from_residual-in_err-second.ensures.1 in
    rw (p.1, p.2) (memory_says (Option Opened) ⊤ c.in_err-second.field-0.0
    (c.in_err-second.ensures.accepts at.entered.more (e ++ y) read.inside.moves.left others (white_tag at.entered.more (e ++ y) y blank (e, ends, refl))))

pub returns-in-Some-2-clause-accepts : goal.returns-in-Some-2-clause-accepts
returns-in-Some-2-clause-accepts c nodes d y has fresh ahead is fits =
    let old = c.args.self.now.source in
    let mid = c.next_tag.new.self in
    let (e, row, ends) = ahead.row in
    let (white, is_white, first) = c.in_ok-inner.ensures.read ahead.left in
    let tag = subst (λ (z : Option Opened). TagAfter z white old mid) c.in-Some.is first in
    let (t, start) = tag.is in
    let stop : IsStop (e ++ y) = inr (e, y, ends, refl) in
    let at = element_entered c.kinds_are_read.ensures c.in-Some.inner white t nodes old mid (e ++ y) ahead.fit is_white tag start row stop in
    let (rdf, blank) = alone_front (IsRdf d) white (Element t c.in-Some.inner.place at.entered.content at.entered.more) is_white
    (subst (IsAlone (IsRdf d)) at.is is) in
    let read = c.in_ok-read_rdf.ensures.read t has tag.moves.left fresh start.opened in
    let others = row_after c.kinds_are_read.ensures c.in-Some.inner white t at.left read.nodes old mid c.read_rdf.new.self.source (e ++ y) tag start
    at.entered read.inside read.scope in
    let (more, is_more, last) = c.in_ok-second.ensures.read read.inside.moves.left in
    let again = subst (λ (z : Option Opened). TagAfter z more c.read_rdf.new.self.source c.next_tag-2.new.self) c.in-Some-2.is last in
    let (u, begin) = again.is in
    let second = enter_after c.kinds_are_read.ensures c.in-Some-2.second more u at.entered.more c.read_rdf.new.self.source c.next_tag-2.new.self (e ++ y)
    is_more again begin others stop in
    absurd (white_inside c.in-Some-2.second more u at.entered.more c.read_rdf.new.self.source c.next_tag-2.new.self (e ++ y) second blank)
