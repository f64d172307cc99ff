use Rattle.std.proofs.Common.{◌++◌, length, rules}
use Rattle.std.specs.Prelude.{codes, decimal}
use Rattle.std.proofs.lemmas.Result.{err_from_is_err_and}
use Rattle.hex.specs.Hex.{encode_lower}
use Rattle.px_bytes.specs.lemmas.WaitingLaws.{puts_both, puts_first}
use Rattle.px_bytes.specs.declared.Order.TheVariants.{Most}
use Rattle.px_bytes.specs.Numbers.{spelling}
use Rattle.px_text.specs.Listing.{type_word, shown_elements, field_line}
use Rattle.px_text.proofs.Chains.{owes_append, owes_prefix}
use Rattle.px_text.proofs.field_lines.put_field.Goals as goal

pub returns-in_err-put_head : goal.returns-in_err-put_head
unfolding field_line
returns-in_err-put_head g c =
    let p = err_from_is_err_and c.from_residual.result c.from_residual.ensures.1 in
    let buffer = c.args.pending.now in
    let first = encode_lower (spelling Most 2 c.args.tag) ++ codes " " ++ type_word c.args.value.now.kind ++ codes " " ++ decimal (length
    c.args.value.now.elements) ++ codes ":" in
    let second = shown_elements c.args.value.now.kind c.args.value.now.elements in
    rw p.1 (puts_first _ _ buffer (first ++ second) (codes "\n") (puts_first _ _ buffer first second c.in_err-put_head.ensures.0), search rules)

pub returns-in_err-put_value : goal.returns-in_err-put_value
unfolding field_line
returns-in_err-put_value g c =
    let p = err_from_is_err_and c.from_residual-in_err-put_value.result c.from_residual-in_err-put_value.ensures.1 in
    let buffer = c.args.pending.now in
    let first = encode_lower (spelling Most 2 c.args.tag) ++ codes " " ++ type_word c.args.value.now.kind ++ codes " " ++ decimal (length
    c.args.value.now.elements) ++ codes ":" in
    let second = shown_elements c.args.value.now.kind c.args.value.now.elements in
    rw p.1 (
      puts_first _ _ buffer (first ++ second) (codes "\n") (owes_prefix _ _ _ buffer c.put_head.new.pending first second
          c.in_ok-put_head.ensures.0 c.in_err-put_value.ensures.0),
      search rules,
    )

pub returns : goal.returns
unfolding field_line
returns g c =
    let buffer = c.args.pending.now in
    let first = encode_lower (spelling Most 2 c.args.tag) ++ codes " " ++ type_word c.args.value.now.kind ++ codes " " ++ decimal (length
    c.args.value.now.elements) ++ codes ":" in
    let second = shown_elements c.args.value.now.kind c.args.value.now.elements in (
      puts_both c.put.result _ _ _ buffer c.put_value.new.pending c.put.new.self (first ++ second) (codes "\n") (owes_append _ _ _ buffer
          c.put_head.new.pending c.put_value.new.pending first second c.in_ok-put_head.ensures.0 c.in_ok-put_value.ensures.0)
          c.put.ensures.bytes,
      search rules,
    )
