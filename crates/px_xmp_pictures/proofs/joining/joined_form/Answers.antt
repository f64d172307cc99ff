use Rattle.std.specs.Prelude.{⊤}
use Rattle.std.proofs.Common.{List, ℕ, None, sym, subst}
use Rattle.std.proofs.lemmas.Result.{err_from_is_err_and}
use Rattle.px_jpeg.specs.Pieces.{pieces, range}
use Rattle.px_xmp.specs.Laws.{IsFormOfPacket}
use Rattle.px_xmp_pictures.specs.Extension.{extension_pieces}
use Rattle.px_xmp_pictures.specs.Joined.{IsJoinedPacket, PartsFit, IsLeftPacket, IsNotJoined}
use Rattle.px_xmp_pictures.proofs.LeftLaws.{left_map}
use Rattle.px_xmp_pictures.proofs.JoinedLaws.{joining_fails, whole_fails}
use Rattle.px_xmp_pictures.proofs.joining.joined_form.Goals as goal

pub returns-clause-joined : goal.returns-clause-joined
returns-clause-joined c = record {
  packet = c.in-Some.packet;
  only = c.in-Some.ensures;
  form = c.as_slice.result.now;
  document = subst (λ (z : List ℕ). IsFormOfPacket (range c.args.front.now.octets c.in-Some.packet.start c.in-Some.packet.size) z)
      (sym c.as_slice.ensures.value) c.in_ok-form.ensures.form;
  whole = c.in_ok-joined.joined.items;
  joined = c.in_ok-joined.ensures.joined;
  is_packet = subst (λ (z : List ℕ). IsFormOfPacket z c.in_ok-whole.whole.items) c.as_slice-2.ensures.value c.in_ok-whole.ensures.form;
}

pub returns-in_err-joined-clause-left : goal.returns-in_err-joined-clause-left
returns-in_err-joined-clause-left c =
    let failed = c.from_residual-in_err-joined in
    let p = err_from_is_err_and failed.result failed.ensures.1 in
    let front = c.args.front.now in
    let packet = c.in-Some.packet in
    let form = subst (λ (z : List ℕ). IsFormOfPacket (range front.octets packet.start packet.size) z) (sym c.as_slice.ensures.value)
    c.in_ok-form.ensures.form in
    rw (p.1, p.2) (left_map ⊤ ⊤
    ((whole : List ℕ)
    → (j : IsJoinedPacket front.octets (extension_pieces (pieces front.octets None front.parts)) c.as_slice.result.now whole)
    → PartsFit j → ⊥)
    (IsNotJoined front) c.in_err-joined.field-0.0
    (joining_fails c.one_packet.ensures c.one_meaning.ensures front packet c.as_slice.result.now c.in-Some.ensures form)
    c.in_err-joined.ensures.left)

pub returns-in_err-whole-clause-left : goal.returns-in_err-whole-clause-left
returns-in_err-whole-clause-left c =
    let failed = c.from_residual-in_err-whole in
    let p = err_from_is_err_and failed.result failed.ensures.1 in
    let front = c.args.front.now in
    let packet = c.in-Some.packet in
    let form = subst (λ (z : List ℕ). IsFormOfPacket (range front.octets packet.start packet.size) z) (sym c.as_slice.ensures.value)
    c.in_ok-form.ensures.form in
    let joined = subst (λ (z : List ℕ). IsJoinedPacket front.octets (extension_pieces (pieces front.octets None front.parts))
    c.as_slice.result.now z) (sym c.as_slice-2.ensures.value) c.in_ok-joined.ensures.joined in
    rw (p.1, p.2) (left_map ⊤ ⊤ (IsLeftPacket c.as_slice-2.result.now) (IsNotJoined front) c.in_err-whole.field-0.0
    (whole_fails c.one_packet.ensures c.one_meaning.ensures front packet c.as_slice.result.now c.as_slice-2.result.now c.in-Some.ensures
    form joined)
    c.in_err-whole.ensures.left)
