use Rattle.std.proofs.Common.{◌∙◌, length, ap, sym}
use Rattle.px_field.specs.Values.{Value, encoded}
use Rattle.px_field.proofs.TurnLaws.{pair_raw, pair_encoded}
use Rattle.px_field.proofs.values.Value.encode_eight.Goals as goal

pub turned_pair-requires : goal.turned_pair-requires
turned_pair-requires c =
    let v = c.self.inside in
    pair_raw v.widened v.order c.args.order v.form v.raw.now c.self.invariant.width c.self.invariant.whole c.self.invariant.bytes
    (c.is_fraction.ensures c.if-is_fraction.true)
    (ap (λ (w : Value). length (encoded c.args.order w)) c.self.view_is ∙ c.requires)

pub returns-then-is_fraction : goal.returns-then-is_fraction
returns-then-is_fraction c =
    let v = c.self.inside in
    let pair = c.is_fraction.ensures c.if-is_fraction.true in
    let long =
    pair_raw v.widened v.order c.args.order v.form v.raw.now c.self.invariant.width c.self.invariant.whole c.self.invariant.bytes pair
    (ap (λ (w : Value). length (encoded c.args.order w)) c.self.view_is ∙ c.requires)
    in
    c.turned_pair.ensures
    ∙ sym (pair_encoded v.widened v.order c.args.order v.form v.raw.now c.self.invariant.width c.self.invariant.bytes pair long)
    ∙ ap (λ (w : Value). encoded c.args.order w) c.self.view_is
