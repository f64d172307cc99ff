use Rattle.std.proofs.Common.{ap, List, ℕ, length, ◌≡◌, ◌∙◌, arith}
use Rattle.px_bytes.specs.Parts.{part}
use Rattle.px_bytes.specs.lemmas.PartLaws.{length_part}
use Rattle.px_meaning.specs.Entry.{entry, short, long}
use Rattle.px_tree.proofs.entries.head_at.Goals as goal

pub number32-requires-2 : goal.number32-requires-2
number32-requires-2 c =
    let twelve : length c.part_of-bytes.result.now ≡ 12 =
    ap (λ (x : List ℕ). length x) c.part_of-bytes.ensures ∙ length_part c.args.block.now c.args.at 12 c.requires.inside in
    omega arith

pub returns : goal.returns
unfolding entry
returns c =
    let o = c.args.order in
    let bytes = c.part_of-bytes.ensures in
    record {
      tag = c.number16.ensures ∙ ap (λ (x : List ℕ). short o (part x 0 2)) bytes;
      code = c.number16-2.ensures ∙ ap (λ (x : List ℕ). short o (part x 2 2)) bytes;
      count = c.number32.ensures ∙ ap (λ (x : List ℕ). long o (part x 4 4)) bytes;
      offset_is = c.number32-2.ensures ∙ ap (λ (x : List ℕ). long o (part x 8 4)) bytes;
    }
