use Rattle.std.specs.Prelude.{⊤}
use Rattle.std.proofs.Common.{◌∙◌, List, ℕ, None, sym, subst}
use Rattle.std.proofs.lemmas.Result.{err_from_is_err_and}
use Rattle.px_jpeg.specs.Pieces.{pieces}
use Rattle.px_xmp.specs.Accepted.{PacketFits}
use Rattle.px_xmp_pictures.specs.Extension.{extension_pieces, IsExtension}
use Rattle.px_xmp_pictures.specs.Joined.{HasExtension, IsJoinedPacket, PartsFit}
use Rattle.px_xmp_pictures.proofs.LeftLaws.{left_map}
use Rattle.px_xmp_pictures.proofs.JoinedLaws.{named_once, extension_form_once}
use Rattle.px_xmp_pictures.proofs.joining.joined_packet.Goals as goal

pub returns-in_default-clause-left : goal.returns-in_default-clause-left
returns-in_default-clause-left c whole j fits = c.in_default.ensures j.front j.name j.back j.named

pub returns-in_err-extension-clause-left : goal.returns-in_err-extension-clause-left
returns-in_err-extension-clause-left c =
    let failed = c.from_residual-in_err-extension in
    let p = err_from_is_err_and failed.result failed.ensures.1 in
    let b = c.args.front.now.octets in
    let all = extension_pieces (pieces b None c.args.front.now.parts) in
    let pointer = c.in-Some.pointer in
    rw (p.1, p.2) (left_map ⊤ ⊤ ((x : List ℕ) → IsExtension b all pointer.name.now x → PacketFits x → ⊥)
    ((whole : List ℕ) → (j : IsJoinedPacket b all c.args.form.now whole) → PartsFit j → ⊥) c.in_err-extension.field-0.0
    (λ h whole j fits.
    let same = named_once c.args.form.now pointer.front.now pointer.name.now pointer.back.now j.front j.name j.back c.in-Some.ensures
    j.named in
    h j.extended.octets (subst (λ (z : List ℕ). IsExtension b all z j.extended.octets) (sym same.1) j.extended.extension) fits.1)
    c.in_err-extension.ensures.left)

pub returns-in_default-properties_of-clause-left : goal.returns-in_default-properties_of-clause-left
returns-in_default-properties_of-clause-left c whole j fits =
    let b = c.args.front.now.octets in
    let all = extension_pieces (pieces b None c.args.front.now.parts) in
    let pointer = c.in-Some.pointer in
    let same = named_once c.args.form.now pointer.front.now pointer.name.now pointer.back.now j.front j.name j.back c.in-Some.ensures
    j.named in
    let other = extension_form_once c.one_packet.ensures c.one_meaning.ensures b all j.name c.in_ok-extension.extension.items j.other
    (subst (λ (z : List ℕ). HasExtension b all z c.in_ok-extension.extension.items) same.1 c.in_ok-extension.ensures.extended) j.extended in
    c.in_default-properties_of.ensures j.properties (c.as_slice.ensures.value ∙ other ∙ j.all)
