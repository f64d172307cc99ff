use Rattle.std.proofs.Common.{◌≡◌, ◌≤◌, ◌+◌, ◌++◌, ◌∙◌, inr, sym, length, length-append, ap, arith}
use Rattle.px_bytes.specs.Parts.{limit}
use Rattle.px_xmp_text.specs.Values.{Content}
use Rattle.px_xmp_document.specs.Document.{IsFile}
use Rattle.px_xmp.specs.Meaning.{HasMeaning}
use Rattle.px_xmp.specs.Laws.{IsFormOf, HasNoMeaning}
use Rattle.px_xmp.specs.Packet.{IsPacket}
use Rattle.px_xmp.proofs.FormedLaws.{both_ok, IsParted, packet_from, none_from}
use Rattle.px_xmp.proofs.PacketLaws.{parts_joined}
use Rattle.px_xmp.proofs.RefusedLaws.{wrong_weaker}
use Rattle.std.proofs.lemmas.Result.{on_ok_weaker}
use Rattle.px_xmp.proofs.DocumentFitLaws.{fits_from}
use Rattle.px_xmp.specs.Refusals.{IsRefusedDocument, IsRefused}
use Rattle.px_xmp.proofs.LayerLaws.{document_from, refused_weaker}
use Rattle.px_xmp.proofs.packet.form_in.Goals as goal

pub returns-clause-packet : goal.returns-clause-packet
returns-clause-packet c =
    let x = c.args.packet.now in
    let before = c.split_at.result.0.now in
    let rest = c.split_at.result.1.now in
    let document = c.split_at-2.result.0.now in
    let after = c.split_at-2.result.1.now in
    let parted : IsParted x before rest document after c.around_len.result c.unpadded_len.result =
    record {
      before = c.split_at.ensures.front;
      rest = c.split_at.ensures.back;
      document = c.split_at-2.ensures.front;
      after = c.split_at-2.ensures.back;
      pieces = c.around_len.ensures.around.0;
      around = c.around_len.ensures.around.1;
      first = c.around_len.ensures.first;
      padding = c.unpadded_len.ensures.padding;
      last = c.unpadded_len.ensures.last;
    } in
    on_ok_weaker c.document_form.result (λ file. packet_from x before rest document after c.around_len.result c.unpadded_len.result parted
    (omega (arith, c.if-packet-gt-LIMIT.false)) file) c.document_form.ensures.document

pub returns-clause-form : goal.returns-clause-form
returns-clause-form c =
    let x = c.args.packet.now in
    let before = c.split_at.result.0.now in
    let rest = c.split_at.result.1.now in
    let document = c.split_at-2.result.0.now in
    let after = c.split_at-2.result.1.now in
    let parted : IsParted x before rest document after c.around_len.result c.unpadded_len.result =
    record {
      before = c.split_at.ensures.front;
      rest = c.split_at.ensures.back;
      document = c.split_at-2.ensures.front;
      after = c.split_at-2.ensures.back;
      pieces = c.around_len.ensures.around.0;
      around = c.around_len.ensures.around.1;
      first = c.around_len.ensures.first;
      padding = c.unpadded_len.ensures.padding;
      last = c.unpadded_len.ensures.last;
    } in
    let joined : x ≡ before ++ document ++ after =
    parts_joined x before rest document after c.around_len.result c.unpadded_len.result parted.before parted.rest parted.document parted.after in
    let few : length before + length document ≤ limit =
    omega (arith, c.if-packet-gt-LIMIT.false, ap length joined, length-append (before ++ document) after, length-append before document) in
    both_ok c.document_form.result (IsFile document) (λ form. IsFormOf document (length before) form.items)
    (λ form. (p : IsPacket x) × IsFormOf p.document (length p.before) form.items) (λ file form is. (
      packet_from x before rest document after c.around_len.result c.unpadded_len.result parted (omega (arith, c.if-packet-gt-LIMIT.false)) file,
      is,
    ))
    c.document_form.ensures.document (c.document_form.ensures.form few)

pub returns-clause-readable : goal.returns-clause-readable
returns-clause-readable c =
    let before = c.split_at.result.0.now in
    let document = c.split_at-2.result.0.now in
    let after = c.split_at-2.result.1.now in
    let joined : c.args.packet.now ≡ before ++ document ++ after =
    parts_joined _ _ _ _ _ _ _ c.split_at.ensures.front c.split_at.ensures.back c.split_at-2.ensures.front c.split_at-2.ensures.back in
    c.document_form.ensures.readable
    (omega (arith, c.if-packet-gt-LIMIT.false, ap length joined, length-append (before ++ document) after, length-append before document))

pub returns-clause-refused : goal.returns-clause-refused
returns-clause-refused c =
    let x = c.args.packet.now in
    let before = c.split_at.result.0.now in
    let rest = c.split_at.result.1.now in
    let document = c.split_at-2.result.0.now in
    let after = c.split_at-2.result.1.now in
    let parted : IsParted x before rest document after c.around_len.result c.unpadded_len.result =
    record {
      before = c.split_at.ensures.front;
      rest = c.split_at.ensures.back;
      document = c.split_at-2.ensures.front;
      after = c.split_at-2.ensures.back;
      pieces = c.around_len.ensures.around.0;
      around = c.around_len.ensures.around.1;
      first = c.around_len.ensures.first;
      padding = c.unpadded_len.ensures.padding;
      last = c.unpadded_len.ensures.last;
    } in
    let joined : x ≡ before ++ document ++ after =
    parts_joined x before rest document after c.around_len.result c.unpadded_len.result parted.before parted.rest parted.document parted.after in
    let few : length before + length document ≤ limit =
    omega (arith, c.if-packet-gt-LIMIT.false, ap length joined, length-append (before ++ document) after, length-append before document) in
    wrong_weaker _ c.document_form.result ((d : Content) → IsFile document → HasMeaning document (length before) d → ⊥) (HasNoMeaning x)
    (none_from x before rest document after c.around_len.result c.unpadded_len.result parted) (c.document_form.ensures.refused few)

pub returns-then-packet-gt-LIMIT-clause-accepts : goal.returns-then-packet-gt-LIMIT-clause-accepts
returns-then-packet-gt-LIMIT-clause-accepts c h = absurd (omega (arith, c.if-packet-gt-LIMIT.true, h.packet.few))

pub returns-then-is_wide-clause-accepts : goal.returns-then-is_wide-clause-accepts
returns-then-is_wide-clause-accepts c h = let wrong = sym c.if-is_wide.true ∙ c.is_wide.ensures ∙ h.narrow in absurd (cc)

pub returns-clause-accepts : goal.returns-clause-accepts
returns-clause-accepts c h =
    let x = c.args.packet.now in
    let before = c.split_at.result.0.now in
    let rest = c.split_at.result.1.now in
    let document = c.split_at-2.result.0.now in
    let after = c.split_at-2.result.1.now in
    let parted : IsParted x before rest document after c.around_len.result c.unpadded_len.result =
    record {
      before = c.split_at.ensures.front;
      rest = c.split_at.ensures.back;
      document = c.split_at-2.ensures.front;
      after = c.split_at-2.ensures.back;
      pieces = c.around_len.ensures.around.0;
      around = c.around_len.ensures.around.1;
      first = c.around_len.ensures.first;
      padding = c.unpadded_len.ensures.padding;
      last = c.unpadded_len.ensures.last;
    } in
    let joined : x ≡ before ++ document ++ after =
    parts_joined x before rest document after c.around_len.result c.unpadded_len.result parted.before parted.rest parted.document parted.after in
    let few : length before + length document ≤ limit =
    omega (arith, c.if-packet-gt-LIMIT.false, ap length joined, length-append (before ++ document) after, length-append before document) in
    c.document_form.ensures.accepts few (fits_from x before rest document after c.around_len.result c.unpadded_len.result parted h)

pub returns-clause-layer : goal.returns-clause-layer
returns-clause-layer c =
    let x = c.args.packet.now in
    let before = c.split_at.result.0.now in
    let rest = c.split_at.result.1.now in
    let document = c.split_at-2.result.0.now in
    let after = c.split_at-2.result.1.now in
    let parted : IsParted x before rest document after c.around_len.result c.unpadded_len.result =
    record {
      before = c.split_at.ensures.front;
      rest = c.split_at.ensures.back;
      document = c.split_at-2.ensures.front;
      after = c.split_at-2.ensures.back;
      pieces = c.around_len.ensures.around.0;
      around = c.around_len.ensures.around.1;
      first = c.around_len.ensures.first;
      padding = c.unpadded_len.ensures.padding;
      last = c.unpadded_len.ensures.last;
    } in
    let joined : x ≡ before ++ document ++ after =
    parts_joined x before rest document after c.around_len.result c.unpadded_len.result parted.before parted.rest parted.document parted.after in
    let few : length before + length document ≤ limit =
    omega (arith, c.if-packet-gt-LIMIT.false, ap length joined, length-append (before ++ document) after, length-append before document) in
    refused_weaker _ c.document_form.result (IsRefusedDocument document (length before)) (IsRefused x) (λ cause place is. inr (inr (
      document_from x before rest document after c.around_len.result c.unpadded_len.result parted (omega (arith, c.if-packet-gt-LIMIT.false))
          (sym c.is_wide.ensures ∙ c.if-is_wide.false),
      is,
    )))
    (c.document_form.ensures.layer few)

pub returns-clause-narrow : goal.returns-clause-narrow
returns-clause-narrow c =
    on_ok_weaker c.document_form.result (λ file. sym c.is_wide.ensures ∙ c.if-is_wide.false) c.document_form.ensures.document

pub returns-clause-asked : goal.returns-clause-asked
returns-clause-asked c none =
    let x = c.args.packet.now in
    let before = c.split_at.result.0.now in
    let rest = c.split_at.result.1.now in
    let document = c.split_at-2.result.0.now in
    let after = c.split_at-2.result.1.now in
    let parted : IsParted x before rest document after c.around_len.result c.unpadded_len.result =
    record {
      before = c.split_at.ensures.front;
      rest = c.split_at.ensures.back;
      document = c.split_at-2.ensures.front;
      after = c.split_at-2.ensures.back;
      pieces = c.around_len.ensures.around.0;
      around = c.around_len.ensures.around.1;
      first = c.around_len.ensures.first;
      padding = c.unpadded_len.ensures.padding;
      last = c.unpadded_len.ensures.last;
    } in
    c.document_form.ensures.asked (λ file. none (
      sym c.is_wide.ensures ∙ c.if-is_wide.false,
      packet_from x before rest document after c.around_len.result c.unpadded_len.result parted (omega (arith, c.if-packet-gt-LIMIT.false)) file,
    ))
