use Rattle.std.proofs.Common.{◌∙◌, Ok}
use Rattle.std.specs.Prelude.{⊤, flat_map}
use Rattle.std.proofs.lemmas.Result.{err_from_is_err_and}
use Rattle.px_bytes.specs.lemmas.WaitingLaws.{puts_written, sent_puts, waits_never}
use Rattle.px_bytes.specs.lemmas.WriteLaws.{prefix_first}
use Rattle.px_field.specs.Values.{encode, encoded}
use Rattle.px_layout.proofs.put.put_large.Goals as goal

pub returns-in_err-send : goal.returns-in_err-send
unfolding encoded
returns-in_err-send g c =
    let p = err_from_is_err_and c.from_residual.result c.from_residual.ensures.1 in
    rw p.1 (
      (
        prefix_first _ _ c.args.pending.now.bytes (flat_map (encode c.args.order) c.args.value.now.elements) c.in_err-send.ensures.bytes,
        c.requires.long,
      ),
      c.in_err-send.ensures.count,
    )

pub returns-then-write_encoded : goal.returns-then-write_encoded
unfolding encoded
returns-then-write_encoded g c = (
  (
    puts_written {A = ⊤} {E = ⊤} (Ok tt) _ _ _ c.args.pending.now c.send.new.self _ c.in_ok-send.ensures.none c.in_ok-send.ensures.bytes
        (c.write_encoded.ensures.written c.if-write_encoded.true),
    λ f. absurd (c.requires.long f),
  ),
  c.write_encoded.ensures.count c.if-write_encoded.true ∙ c.in_ok-send.ensures.count,
)

pub returns : goal.returns
unfolding encoded
returns g c =
    let same = c.write_encoded.ensures.same c.if-write_encoded.false in
    let put = rw same at c.put_by_pieces.ensures in (
      (
        sent_puts c.put_by_pieces.result _ _ _ c.args.pending.now c.send.new.self c.put_by_pieces.new.pending _ c.in_ok-send.ensures.none
            c.in_ok-send.ensures.bytes put.0.0,
        waits_never c.put_by_pieces.result _ _ _ _ _ c.requires.long,
      ),
      rw c.in_ok-send.ensures.count at put.1,
    )
