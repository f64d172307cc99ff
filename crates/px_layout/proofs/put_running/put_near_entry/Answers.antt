use Rattle.std.proofs.Common.{◌≡◌, ◌∙◌, ◌-◌, ◌++◌, ℕ, List, replicate, ap, rules}
use Rattle.std.proofs.lemmas.Result.{err_from_is_err_and}
use Rattle.px_bytes.specs.lemmas.WaitingLaws.{puts_to_both}
use Rattle.px_bytes.specs.declared.Order.TheVariants.{Most}
use Rattle.px_meaning.specs.Writable.{Item, item_size}
use Rattle.px_layout.specs.Laid.{item_bytes}
use Rattle.px_layout.specs.Plans.{Plan}
use Rattle.px_layout.specs.calls.Forms.{plan_in}
use Rattle.px_layout.specs.calls.Given.{head_bytes, near_given}
use Rattle.px_layout.specs.calls.Items.{item_of, entry_of}
use Rattle.px_layout.specs.lemmas.PutLaws.{both_as, first_as, fails_as, second_of}
use Rattle.px_layout.proofs.put_running.put_near_entry.Goals as goal

-- the same, with another name for the size
near_given_head : (plan : Plan) (i : ℕ × Item) (n : ℕ) (head : List ℕ) → n ≡ item_size i.1 → head ≡ head_bytes Most i
    → head ++ (item_bytes plan Most 0 i.1 ++ replicate (4 - n) 0) ≡ near_given plan i
unfolding near_given
near_given_head plan i n head s e =
    ap (λ (k : ℕ). head ++ (item_bytes plan Most 0 i.1 ++ replicate (4 - k) 0)) s
    ∙ ap (λ (x : List ℕ). x ++ (item_bytes plan Most 0 i.1 ++ replicate (4 - item_size i.1) 0)) e

pub returns-in_err-put : goal.returns-in_err-put
returns-in_err-put g c =
    let p = err_from_is_err_and c.from_residual.result c.from_residual.ensures.1 in
    rw p.1 (
      first_as g.W.Sink.bytes_taken _ _ c.args.pending.now _ _ _ (near_given_head (plan_in c.args.form.now)
          (entry_of c.args.entry.now) c.size-size.result c.entry_head.result c.size-size.ensures c.entry_head.ensures)
          (c.in_err-put.ensures.bytes, c.in_err-put.ensures.waits),
      search rules,
    )

pub returns-in_err-put_item_value : goal.returns-in_err-put_item_value
returns-in_err-put_item_value g c =
    let p = err_from_is_err_and c.from_residual-in_err-put_item_value.result c.from_residual-in_err-put_item_value.ensures.1 in
    let value = item_bytes (plan_in c.args.form.now) Most 0 (item_of c.args.entry.now.item) in
    let spare = replicate (4 - c.size-size.result) 0 in
    rw p.1 (
      fails_as g.W.Sink.bytes_taken _ _ c.args.pending.now _ _ (near_given_head (plan_in c.args.form.now)
          (entry_of c.args.entry.now) c.size-size.result c.entry_head.result c.size-size.ensures c.entry_head.ensures)
          (second_of g.W.Sink.bytes_taken _ _ _ c.args.pending.now c.put.new.self c.entry_head.result value spare
          (c.in_ok-put.ensures.bytes, c.in_ok-put.ensures.waits) c.in_err-put_item_value.ensures.0),
      search rules,
    )

pub returns : goal.returns
returns g c =
    let value = item_bytes (plan_in c.args.form.now) Most 0 (item_of c.args.entry.now.item) in
    let spare = replicate (4 - c.size-size.result) 0 in (
      both_as g.W.Sink.bytes_taken c.put_filler.result _ _ _ c.args.pending.now c.put.new.self c.put_filler.new.pending _ _ _
          (near_given_head (plan_in c.args.form.now) (entry_of c.args.entry.now) c.size-size.result c.entry_head.result
          c.size-size.ensures c.entry_head.ensures)
          (c.in_ok-put.ensures.bytes, c.in_ok-put.ensures.waits)
          (puts_to_both g.W.Sink.bytes_taken c.put_filler.result _ _ _ c.put.new.self c.put_item_value.new.pending c.put_filler.new.pending
          value spare c.in_ok-put_item_value.ensures.0 c.put_filler.ensures.0),
      search rules,
    )
