-- The normal packet of readable content is a document.
use Rattle.std.proofs.Common.{◌≡◌, ◌++◌, ◌∙◌, inr, refl, arith, ℕ, None, List, [], ◌∷◌, get_or, ap}
use Rattle.px_xmp_text.specs.Laws.{NormalReadsBack, NormalBound, FaultOrText}
use Rattle.px_xmp_text.specs.Values.{normal_packet}
use Rattle.px_xmp_marks.specs.Laws.{StartTagsAreRead}
use Rattle.px_xmp_document.specs.Document.{NoDeclaration}
use Rattle.px_xmp.specs.Laws.{NormalIsFile}
use Rattle.px_xmp.proofs.PartLaws.{packet_parts, packet_are}
use Rattle.px_xmp.proofs.CharacterLaws.{packet_characters}
use Rattle.px_xmp.proofs.NestLaws.{packet_tree, parts_distinct}
use Rattle.px_xmp.proofs.LeadLaws.{packet_spaces}

no_declaration : (z : List ℕ) → NoDeclaration (60 ∷ 120 ∷ z)
no_declaration z d y e h w =
    let wrong : 120 ≡ 63 = ap (λ (z : List ℕ). get_or z 1 0) (w ∙ ap (λ (z : List ℕ). z ++ y) h.whole) in absurd (omega (arith, wrong))

pub normal_is_file : NormalReadsBack → NormalBound → FaultOrText → StartTagsAreRead → NormalIsFile
normal_is_file reads bounds faults starts c is h =
    record {
      declaration = [];
      encoding = None;
      tree = normal_packet c;
      characters = packet_characters c h.1;
      parts = (refl, inr (refl, refl, no_declaration _));
      encoded = refl;
      elements = let are = packet_are reads bounds faults c is h.1 in (packet_tree c (normal_packet c) h.2 are, parts_distinct starts (packet_parts c) (normal_packet c) are, packet_spaces c (normal_packet c) h.1 h.2 are);
    }
