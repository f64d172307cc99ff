use Rattle.std.proofs.Common.{List, ℕ, Some, ap, ◌∙◌, sym}
use Rattle.std.specs.Prelude.{is_some}
use Rattle.px_field.specs.Values.{Value}
use Rattle.px_meaning.specs.Entry.{record_in}
use Rattle.px_tree.proofs.reading.Raw.{unless_some, unless_none}
use Rattle.px_tree.proofs.field_reading.unless_record_at.Goals as goal

pub returns-then-is_record_in : goal.returns-then-is_record_in
returns-then-is_record_in c =
    sym (unless_some _ _ (ap (λ (x : List ℕ). is_some (record_in c.args.form x)) (sym c.raw_of.ensures.bytes) ∙ sym c.is_record_in.ensures
    ∙ c.if-is_record_in.true))

pub returns : goal.returns
returns c =
    ap (λ (v : Value). Some v) c.value_at.ensures
    ∙ sym (unless_none _ _ (ap (λ (x : List ℕ). is_some (record_in c.args.form x)) (sym c.raw_of.ensures.bytes) ∙ sym c.is_record_in.ensures
    ∙ c.if-is_record_in.false))
