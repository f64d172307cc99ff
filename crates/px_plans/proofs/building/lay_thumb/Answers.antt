use Rattle.std.proofs.Common.{ℕ, Option, option_map, subst, sym, ap}
use Rattle.px_meaning.specs.Tree.{Thumbnail}
use Rattle.px_meaning.specs.calls.Seen.{thumb_of, meaning_of}
use Rattle.px_layout.specs.Laid.{jpeg_contents, all_strip_contents, thumb_contents}
use Rattle.px_plans.specs.calls.Building.{AreInside, PutsOver, at_places}
use Rattle.px_plans.proofs.plans.Pieces.{jpeg_inside, strips_inside, no_thumb}
use Rattle.px_plans.proofs.building.lay_thumb.Goals as goal

pub lay_parts-requires-clause-strips : goal.lay_parts-requires-clause-strips
lay_parts-requires-clause-strips c =
    subst (λ (n : ℕ). AreInside n (at_places c.args.layout.now (all_strip_contents (thumb_of c.in-Some.thumb).strips))) (sym c.requires.len)
    (strips_inside c.args.layout.now (meaning_of c.args.layout.now.m.now) c.requires.fits c.requires.legal (thumb_of c.in-Some.thumb)
    (ap (option_map thumb_of) c.in-Some.is))

pub lay_parts-requires-clause-jpeg : goal.lay_parts-requires-clause-jpeg
lay_parts-requires-clause-jpeg c =
    subst (λ (n : ℕ). AreInside n (at_places c.args.layout.now (jpeg_contents (thumb_of c.in-Some.thumb).jpeg))) (sym c.requires.len)
    (jpeg_inside c.args.layout.now (meaning_of c.args.layout.now.m.now) c.requires.fits c.requires.legal (thumb_of c.in-Some.thumb)
    (ap (option_map thumb_of) c.in-Some.is))

pub returns-in-Some-clause-bytes : goal.returns-in-Some-clause-bytes
returns-in-Some-clause-bytes c =
    subst (λ (t : Option Thumbnail). PutsOver c.args.block.now c.lay_parts.new.block (at_places c.args.layout.now (thumb_contents t)))
    (sym (ap (option_map thumb_of) c.in-Some.is)) c.lay_parts.ensures.bytes

pub returns-in-None-clause-bytes : goal.returns-in-None-clause-bytes
returns-in-None-clause-bytes c =
    no_thumb c.args.layout.now c.args.block.now c.args.block.now (option_map thumb_of c.args.layout.now.m.now.thumb)
    (ap (option_map thumb_of) c.in-None.is)
