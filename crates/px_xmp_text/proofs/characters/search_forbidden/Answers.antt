use Rattle.std.proofs.Common.{sym, ap, ◌∙◌}
use Rattle.std.specs.Str.Iter.{char_indices_offset, char_indices_rest}
use Rattle.px_xmp_text.specs.References.{is_char}
use Rattle.px_xmp_text.proofs.CharacterLaws.{character_step, one_more}
use Rattle.px_xmp_text.proofs.characters.search_forbidden.Goals as goal

pub loop-at-preserved : goal.loop-at-preserved
loop-at-preserved c =
    let x = c.args.text.now in
    let rest = char_indices_rest c.next.new.self in
    let from = char_indices_offset c.loop-at.at-iterator in
    let to = char_indices_offset c.next.new.self in
    let character = c.in-Some.character in
    let v = c.loop-at.invariant in
    let h = c.in-Some.ensures.steps in
    let s = character_step x rest from to character v.within (sym v.left ∙ h.1) h.2 in
    let allowed = ap is_char (sym c.from.ensures) ∙ sym c.is_char.ensures ∙ c.if-not-is_char.false in
    record { within = s.inside; read = one_more x rest from to character v.read allowed s; left = s.left }
