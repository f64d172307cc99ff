-- A form within the limits of the reader is a packet that it accepts.
use Rattle.std.proofs.Common.{◌≤◌, refl, ℕ, List, length, sym, ap, subst}
use Rattle.px_bytes.specs.Parts.{limit}
use Rattle.px_xmp_text.specs.Laws.{NormalReadsBack, NormalBound, FaultOrText}
use Rattle.px_xmp_text.specs.Values.{Content, IsContent, normal_packet}
use Rattle.px_xmp_forms.specs.Forms.{HaveShortLanguages}
use Rattle.px_xmp.specs.Readable.{IsReadable}
use Rattle.px_xmp.specs.Laws.{NormalIsFile}
use Rattle.px_xmp.specs.Accepted.{DocumentFits, PacketFits, FormsFit}
use Rattle.px_xmp.proofs.OwnFormLaws.{form_packet}
use Rattle.px_xmp.proofs.SaidLaws.{packet_says}

packet_fits : NormalReadsBack → NormalBound → FaultOrText → NormalIsFile → (c : Content) → IsContent c → IsReadable c → HaveShortLanguages c
    → length (normal_packet c) ≤ limit → PacketFits (normal_packet c)
packet_fits reads bounds faults file c can readable short few =
    let (meaning, languages) = packet_says reads bounds faults c can readable in
    let whole = form_packet c (file c can readable) few in
    let document : DocumentFits (normal_packet c) 0 = record {
      file = file c can readable;
      content = c;
      meaning = meaning;
      languages = languages short;
      shallow = readable.2;
      few = few;
    } in
    record {
      packet = whole.packet;
      narrow = refl;
      document = subst (λ (z : List ℕ). DocumentFits z (length whole.packet.before)) (sym whole.document)
          (subst (λ (n : ℕ). DocumentFits (normal_packet c) n) (sym (ap length whole.before)) document);
    }

pub forms_fit : NormalReadsBack → NormalBound → FaultOrText → NormalIsFile → FormsFit
forms_fit reads bounds faults file form (c, can, readable, short, few, is) =
    subst PacketFits (sym is)
    (packet_fits reads bounds faults file c can readable short (subst (λ (z : List ℕ). length z ≤ limit) is few))
