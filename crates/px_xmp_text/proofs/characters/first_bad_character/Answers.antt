use Rattle.px_xmp_text.proofs.CharacterLaws.{bad_in_front}
use Rattle.px_xmp_text.proofs.characters.first_bad_character.Goals as goal

pub returns-in-Some : goal.returns-in-Some
returns-in-Some c =
    let t = c.text_at_start-text in
    bad_in_front c.args.octets.now t.result.now c.in-Some.at t.ensures.start t.ensures.within c.in-Some.ensures
