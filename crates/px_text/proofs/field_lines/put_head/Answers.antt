use Rattle.std.proofs.Common.{ℕ, ◌∙◌, ◌++◌, ap, length, rules}
use Rattle.std.specs.Prelude.{codes, decimal}
use Rattle.std.proofs.lemmas.Result.{err_from_is_err_and}
use Rattle.hex.specs.Hex.{encode_lower}
use Rattle.px_bytes.specs.lemmas.WaitingLaws.{puts_both, puts_first}
use Rattle.px_bytes.specs.declared.Order.TheVariants.{Most}
use Rattle.px_bytes.specs.Numbers.{spelling}
use Rattle.px_field.specs.declared.Kind.{Kind}
use Rattle.px_text.specs.Listing.{type_word}
use Rattle.px_text.proofs.Chains.{owes_append, owes_as, prefix_as, puts_as, owes_prefix}
use Rattle.px_text.proofs.Parts.{head_whole}
use Rattle.px_text.proofs.field_lines.put_head.Goals as goal

pub returns-in_err-put_digits16 : goal.returns-in_err-put_digits16
returns-in_err-put_digits16 g c =
    let p = err_from_is_err_and c.from_residual.result c.from_residual.ensures.1 in
    let buffer = c.args.pending.now in
    let first = encode_lower (spelling Most 2 c.args.tag) in
    let second = codes " " ++ type_word c.args.value.now.kind ++ codes " " in
    let third = decimal (length c.args.value.now.elements) ++ codes ":" in
    let whole = head_whole first (type_word c.args.value.now.kind) (decimal (length c.args.value.now.elements)) in
    rw p.1 (
      prefix_as _ _ buffer _ _ whole (puts_first _ _ buffer (first ++ second) third (puts_first _ _ buffer first second
          c.in_err-put_digits16.ensures.0)),
      search rules,
    )

pub returns-in_err-put : goal.returns-in_err-put
returns-in_err-put g c =
    let p = err_from_is_err_and c.from_residual-in_err-put.result c.from_residual-in_err-put.ensures.1 in
    let buffer = c.args.pending.now in
    let first = encode_lower (spelling Most 2 c.args.tag) in
    let second = codes " " ++ type_word c.args.value.now.kind ++ codes " " in
    let third = decimal (length c.args.value.now.elements) ++ codes ":" in
    let whole = head_whole first (type_word c.args.value.now.kind) (decimal (length c.args.value.now.elements)) in
    let word = c.type_word.ensures ∙ ap (λ (k : Kind). codes " " ++ type_word k ++ codes " ") c.kind.ensures.kind in
    rw p.1 (
      prefix_as _ _ buffer _ _ whole (puts_first _ _ buffer (first ++ second) third (owes_prefix _ _ _ buffer
          c.put_digits16.new.pending first second c.in_ok-put_digits16.ensures.0
          (prefix_as _ _ c.put_digits16.new.pending _ _ word c.in_err-put.ensures.bytes))),
      search rules,
    )

pub returns : goal.returns
returns g c =
    let buffer = c.args.pending.now in
    let first = encode_lower (spelling Most 2 c.args.tag) in
    let second = codes " " ++ type_word c.args.value.now.kind ++ codes " " in
    let third = decimal (length c.args.value.now.elements) ++ codes ":" in
    let whole = head_whole first (type_word c.args.value.now.kind) (decimal (length c.args.value.now.elements)) in
    let word = c.type_word.ensures ∙ ap (λ (k : Kind). codes " " ++ type_word k ++ codes " ") c.kind.ensures.kind in
    let count = ap (λ (n : ℕ). decimal n ++ codes ":") c.count.ensures.count in (
      puts_as c.put_ended.result _ _ buffer c.put_ended.new.pending _ _ whole (puts_both c.put_ended.result _ _ _ buffer c.put.new.self
          c.put_ended.new.pending (first ++ second) third (owes_append _ _ _ buffer c.put_digits16.new.pending c.put.new.self first second
          c.in_ok-put_digits16.ensures.0 (owes_as _ _ c.put_digits16.new.pending c.put.new.self _ _ word c.in_ok-put.ensures.bytes))
          (puts_as c.put_ended.result _ _ c.put.new.self c.put_ended.new.pending _ _ count c.put_ended.ensures.0)),
      search rules,
    )
