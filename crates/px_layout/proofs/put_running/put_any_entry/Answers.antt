use Rattle.std.proofs.Common.{◌≡◌, ◌∙◌, ◌≤◌, ℕ, refl, sym, ltb-true, ltb-false, rules}
use Rattle.px_meaning.specs.Writable.{Item, item_size}
use Rattle.px_layout.specs.Plans.{Plan}
use Rattle.px_layout.specs.calls.Forms.{plan_in}
use Rattle.px_layout.specs.calls.Given.{head_bytes, near_given, entry_given}
use Rattle.px_layout.specs.calls.Items.{entry_of}
use Rattle.px_bytes.specs.declared.Order.TheVariants.{Most}
use Rattle.px_layout.specs.lemmas.PutLaws.{puts_as}
use Rattle.px_layout.proofs.writing.Runs.{given_far, given_near}
use Rattle.px_layout.proofs.put_running.put_any_entry.Goals as goal

near_is : (plan : Plan) (at : ℕ) (i : ℕ × Item) → item_size i.1 ≤ 4 → near_given plan i ≡ entry_given plan at i
unfolding near_given
near_is plan at i l = given_near plan at i (item_size i.1) (head_bytes Most i) refl l refl

pub returns-then-needs_place : goal.returns-then-needs_place
returns-then-needs_place g c = (
  puts_as g.W.Sink.bytes_taken c.put.result _ _ c.args.pending.now c.put.new.self _ _
      (given_far (plan_in c.args.form.now) c.args.at (entry_of c.args.entry) c.size.result c.entry_to.result c.size.ensures
      (ltb-true 4 _ (sym c.needs_place.ensures ∙ c.if-needs_place.true)) c.entry_to.ensures) (c.put.ensures.bytes, c.put.ensures.waits),
  search rules,
)

pub returns : goal.returns
returns g c = (
  puts_as g.W.Sink.bytes_taken c.put_near_entry.result _ _ c.args.pending.now c.put_near_entry.new.pending _ _
      (near_is (plan_in c.args.form.now) c.args.at (entry_of c.args.entry) (rw (sym c.size.ensures)
      (ltb-false 4 c.size.result (sym c.needs_place.ensures ∙ c.if-needs_place.false)))) c.put_near_entry.ensures.0,
  search rules,
)
