use Rattle.std.proofs.Common.{◌≤◌, ◌∙◌, ℕ, List, length, ap, sym, subst}
use Rattle.px_field.specs.Values.{Value, encoded}
use Rattle.px_field.proofs.TurnLaws.{Padded, short_padded, long_padded, bytes_padded}
use Rattle.px_field.proofs.ViewLemmas.{encoded_one}
use Rattle.px_field.proofs.values.Value.encode_four.Goals as goal

pub returns-then-is_one_short : goal.returns-then-is_one_short
returns-then-is_one_short c =
    let v = c.self.inside in
    let is = c.is_one_short.ensures c.if-is_one_short.true in
    c.turned_short.ensures
    ∙ short_padded v.widened v.order c.args.order v.form v.raw.now is.0 is.1 is.2 c.self.invariant.bytes
    ∙ ap (Padded c.args.order) c.self.view_is

pub returns-then-is_one_long : goal.returns-then-is_one_long
returns-then-is_one_long c =
    let v = c.self.inside in
    let is = c.is_one_long.ensures c.if-is_one_long.true in
    c.turned_long.ensures
    ∙ long_padded v.widened v.order c.args.order v.form v.raw.now is.0 is.1 c.self.invariant.width c.self.invariant.bytes
    ∙ ap (Padded c.args.order) c.self.view_is

pub padded_four-requires : goal.padded_four-requires
padded_four-requires c =
    let v = c.self.inside in
    let same =
    sym (ap (λ (w : Value). encoded c.args.order w) c.self.view_is)
    ∙ encoded_one v.widened v.order c.args.order v.form v.raw.now c.self.invariant.width (sym c.size.ensures ∙ c.if-size-eq1.true)
    in
    subst (λ (x : List ℕ). length x ≤ 4) same c.requires

pub returns-then-size-eq1 : goal.returns-then-size-eq1
returns-then-size-eq1 c =
    let v = c.self.inside in
    c.padded_four.ensures
    ∙ bytes_padded v.widened v.order c.args.order v.form v.raw.now c.self.invariant.width (sym c.size.ensures ∙ c.if-size-eq1.true)
    ∙ ap (Padded c.args.order) c.self.view_is
