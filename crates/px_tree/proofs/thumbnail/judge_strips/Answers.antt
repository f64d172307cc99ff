use Rattle.std.proofs.Common.{◌≤◌, Option, IfSome, length, subst}
use Rattle.px_tree.specs.declared.rising.Span.{Span}
use Rattle.px_meaning.specs.calls.Strips.{Rise, ranges_in}
use Rattle.px_tree.proofs.reading.Rising.{rise_inside, rise_true, free_between}
use Rattle.px_tree.proofs.thumbnail.judge_strips.Goals as goal

pub returns-then-are_free-clause-judged : goal.returns-then-are_free-clause-judged
returns-then-are_free-clause-judged c = λ taken a.
    let l = c.args.lists.now in
    let b = l.block.now in
    let s = c.in-Some.span in
    let rise = subst (λ (x : Option Span). IfSome x (λ s. Rise s.start s.end (ranges_in l))) c.in-Some.is c.rising_span.ensures.rise in
    let inside = subst (λ (x : Option Span). IfSome x (λ s. s.end ≤ length b)) c.in-Some.is c.rising_span.ensures.inside in (
      rise_true b c.args.place taken s.start s.end (ranges_in l) rise inside
          (free_between taken _ s.start s.end a (c.are_free.ensures.free c.if-are_free.true)),
      tt,
    )

pub returns-then-are_free-clause-inside : goal.returns-then-are_free-clause-inside
returns-then-are_free-clause-inside c =
    let l = c.args.lists.now in
    let b = l.block.now in
    let s = c.in-Some.span in
    let rise = subst (λ (x : Option Span). IfSome x (λ s. Rise s.start s.end (ranges_in l))) c.in-Some.is c.rising_span.ensures.rise in
    let inside = subst (λ (x : Option Span). IfSome x (λ s. s.end ≤ length b)) c.in-Some.is c.rising_span.ensures.inside in
    rise_inside b s.start s.end (ranges_in l) rise inside
