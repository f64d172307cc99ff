use Rattle.std.specs.Prelude.{⊤}
use Rattle.std.proofs.Common.{◌≡◌, ◌≤◌, ◌∙◌, List, ℕ, None, true, ap, sym, length}
use Rattle.std.proofs.lemmas.Result.{err_from_is_err_and}
use Rattle.std.specs.List.{flat_map}
use Rattle.md5.specs.Md5.{md5}
use Rattle.px_bytes.specs.Parts.{limit}
use Rattle.px_jpeg.specs.Pieces.{pieces}
use Rattle.px_xmp_pictures.specs.declared.portions.Portion.{Portion}
use Rattle.px_xmp_pictures.specs.Extension.{Follow, text_of, capitals, extension_pieces, IsExtension}
use Rattle.px_xmp_pictures.proofs.LeftLaws.{left_map}
use Rattle.px_xmp_pictures.proofs.OrderLaws.{follow_in_order, joined_in_order, not_long, follow_slice, same_text}
use Rattle.px_xmp_pictures.proofs.joining.extension_in.Goals as goal

pub returns-in_default-clause-left : goal.returns-in_default-clause-left
returns-in_default-clause-left c x i short =
    let b = c.args.front.now.octets in
    not_long b c.bytes-bytes.result.now x c.as_slice.result.now c.in_order-portions.result.items c.bytes-bytes.ensures
    c.as_slice.ensures.value c.in_default.ensures short
    (joined_in_order b (extension_pieces (pieces b None c.args.front.now.parts)) c.args.name.now c.in_ok-portions_in.field-0.items
    c.in_order-portions.result.items c.in_ok-portions_in.ensures.portions c.in_order-portions.ensures.all
    c.in_order-portions.ensures.order x i)

pub returns-in_err-octets-clause-left : goal.returns-in_err-octets-clause-left
returns-in_err-octets-clause-left c =
    let failed = c.from_residual-in_err-octets in
    let p = err_from_is_err_and failed.result failed.ensures.1 in
    let b = c.args.front.now.octets in
    let all = extension_pieces (pieces b None c.args.front.now.parts) in
    let text = λ (qs : List Portion). flat_map (text_of c.bytes-bytes.result.now) qs in
    rw (p.1, p.2) (left_map ⊤ ⊤
    (Follow c.bytes-bytes.result.now c.in-Some.total 0 c.as_slice-2.result.now → c.in-Some.total ≡ length (text c.as_slice-2.result.now)
    → ⊥)
    ((x : List ℕ) → IsExtension b all c.args.name.now x → length x ≤ limit → ⊥) c.in_err-octets.field-0.0
    (λ h x i short.
    let follow = follow_in_order b all c.args.name.now c.in_ok-portions_in.field-0.items c.in_order-portions.result.items
    c.in_ok-portions_in.ensures.portions c.in_order-portions.ensures.all c.in_order-portions.ensures.order x i in
    let joined = joined_in_order b all c.args.name.now c.in_ok-portions_in.field-0.items c.in_order-portions.result.items
    c.in_ok-portions_in.ensures.portions c.in_order-portions.ensures.all c.in_order-portions.ensures.order x i in
    h (follow_slice b c.bytes-bytes.result.now x c.as_slice.result.now c.as_slice-2.result.now c.in_order-portions.result.items
    c.in-Some.total
    c.bytes-bytes.ensures c.as_slice.ensures.value c.as_slice-2.ensures.value c.in-Some.ensures.1 follow joined)
    (c.in-Some.ensures.1 ∙ ap (λ (qs : List Portion). length (text qs)) (c.as_slice.ensures.value ∙ sym c.as_slice-2.ensures.value)))
    c.in_err-octets.ensures.left)

pub returns-then-not-is_name_of-clause-left : goal.returns-then-not-is_name_of-clause-left
returns-then-not-is_name_of-clause-left c x i short =
    let b = c.args.front.now.octets in
    let joined = joined_in_order b (extension_pieces (pieces b None c.args.front.now.parts)) c.args.name.now
    c.in_ok-portions_in.field-0.items c.in_order-portions.result.items c.in_ok-portions_in.ensures.portions
    c.in_order-portions.ensures.all c.in_order-portions.ensures.order x i in
    let octets : c.as_slice-3.result.now ≡ x =
    c.as_slice-3.ensures.value
    ∙ same_text b c.bytes-bytes.result.now x c.in_ok-octets.octets.items c.as_slice-2.result.now c.in_order-portions.result.items
    c.bytes-bytes.ensures c.as_slice-2.ensures.value c.in_ok-octets.ensures.joined joined in
    let yes : c.is_name_of.result ≡ true =
    c.is_name_of.ensures.all (i.digest ∙ ap (λ (z : List ℕ). capitals (md5 z)) (sym octets)) in
    let no = c.if-not-is_name_of.true in
    absurd (cc)
