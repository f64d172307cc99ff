use Rattle.std.proofs.Common.{List, ℕ, Some, map, ap, sym, ◌∙◌}
use Rattle.px_bytes.specs.Range.{range}
use Rattle.px_meaning.specs.Thumbnail.{whole_number}
use Rattle.px_meaning.specs.calls.Strips.{ranges_in}
use Rattle.px_meaning.proofs.tables.StripBytes.{ranges_get, strip_get, inside_at}
use Rattle.px_meaning.proofs.strip_lists.strip_at.Goals as goal

pub part_of-requires : goal.part_of-requires
part_of-requires c =
    let l = c.args.lists.now in
    let x = c.number_in-start.result in
    let n = c.number_in-len.result in
    inside_at l.block.now (ranges_in l) c.args.i (range x n) c.requires.named.inside
    (ranges_get (map whole_number l.starts.elements) (map whole_number l.sizes.elements) c.args.i x n c.number_in-start.ensures
    c.number_in-len.ensures)

pub returns : goal.returns
returns c =
    let l = c.args.lists.now in
    let x = c.number_in-start.result in
    let n = c.number_in-len.result in
    strip_get l.block.now (ranges_in l) c.args.i (range x n)
    (ranges_get (map whole_number l.starts.elements) (map whole_number l.sizes.elements) c.args.i x n c.number_in-start.ensures
    c.number_in-len.ensures)
    ∙ ap (λ (s : List ℕ). Some s) (sym c.part_of.ensures)
