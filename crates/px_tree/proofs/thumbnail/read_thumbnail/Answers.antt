use Rattle.std.proofs.Common.{◌++◌, List, Option, option_map, option_to_list, map, ap, ◌∙◌}
use Rattle.std.proofs.lemmas.Result.{err_from_is_err_and}
use Rattle.px_bytes.specs.Range.{Range}
use Rattle.px_meaning.specs.Roles.{strip_offsets_tag, strip_lengths_tag}
use Rattle.px_meaning.specs.Thumbnail.{bytes_of}
use Rattle.px_tree.specs.calls.Parts.{jpeg_of}
use Rattle.px_tree.proofs.lists.Listed.{have_numbers, offsets_form, lengths_form}
use Rattle.px_tree.proofs.reading.Parted.{even_parts, pairs_refuse, end_refuses, jpeg_refuses, strips_refuse, thumb_true, jpeg_is}
use Rattle.px_tree.proofs.reading.Parted.{strips_is}
use Rattle.px_tree.proofs.assembling.Assembled.{thumbnail_is}
use Rattle.std.proofs.Common.{arith}
use Rattle.px_tree.proofs.thumbnail.read_thumbnail.Goals as goal

pub read_strips-requires-clause-numbers : goal.read_strips-requires-clause-numbers
read_strips-requires-clause-numbers c =
    let b = c.args.block.now in
    let o = c.args.order in
    let found = c.requires.read.uses in
    let each = c.requires.read.each in (
      have_numbers b o c.args.directory.at c.requires.bounded each strip_offsets_tag offsets_form c.args.directory.uses.strip_offsets
          found.strip_offsets,
      have_numbers b o c.args.directory.at c.requires.bounded each strip_lengths_tag lengths_form c.args.directory.uses.strip_lengths
          found.strip_lengths,
    )

pub read_strips-requires-clause-even : goal.read_strips-requires-clause-even
read_strips-requires-clause-even c = even_parts c.args.directory.uses c.in_ok-judge_pairs.ensures.judged.0

pub returns-in_err-judge_pairs-clause-judged : goal.returns-in_err-judge_pairs-clause-judged
returns-in_err-judge_pairs-clause-judged c = λ taken a.
    let p = err_from_is_err_and c.from_residual.result c.from_residual.ensures.1 in
    rw (p.1, p.2) (pairs_refuse c.args.block.now c.args.order c.args.directory.at c.args.directory.uses c.requires.read.uses taken _
    c.in_err-judge_pairs.ensures.judged)

pub returns-in_err-judge_end-clause-judged : goal.returns-in_err-judge_end-clause-judged
returns-in_err-judge_end-clause-judged c = λ taken a.
    let p = err_from_is_err_and c.from_residual-in_err-judge_end.result c.from_residual-in_err-judge_end.ensures.1 in
    rw (p.1, p.2) (end_refuses c.args.block.now c.args.order c.args.directory.at c.args.directory.uses c.requires.read.uses taken
    c.in_ok-judge_pairs.ensures.judged.0 _ c.in_err-judge_end.ensures.judged)

pub returns-in_err-jpeg-clause-judged : goal.returns-in_err-jpeg-clause-judged
returns-in_err-jpeg-clause-judged c = λ taken a.
    let p = err_from_is_err_and c.from_residual-in_err-jpeg.result c.from_residual-in_err-jpeg.ensures.1 in
    rw (p.1, p.2) (jpeg_refuses c.args.block.now c.args.order c.args.directory.at c.args.directory.uses c.requires.read.uses taken
    c.in_ok-judge_pairs.ensures.judged.0 c.in_ok-judge_end.ensures.judged.0 _ (c.in_err-jpeg.ensures.judged taken a))

pub returns-in_err-strips-clause-judged : goal.returns-in_err-strips-clause-judged
returns-in_err-strips-clause-judged c = λ taken a.
    let p = err_from_is_err_and c.from_residual-in_err-strips.result c.from_residual-in_err-strips.ensures.1 in
    let j = c.in_ok-jpeg.ensures.judged taken a in
    let x = c.args.directory.uses in
    rw (p.1, p.2) (strips_refuse c.args.block.now c.args.order c.args.directory.at x c.requires.read.uses taken
    c.in_ok-judge_pairs.ensures.judged.0 c.in_ok-judge_end.ensures.judged.0 j.0 _
    (c.in_err-strips.ensures.judged (option_to_list (jpeg_of x.jpeg_offset x.jpeg_length) ++ taken) j.1))

pub returns-clause-judged : goal.returns-clause-judged
returns-clause-judged c = λ taken a.
    let b = c.args.block.now in
    let o = c.args.order in
    let x = c.args.directory.uses in
    let found = c.requires.read.uses in
    let j = c.in_ok-jpeg.ensures.judged taken a in
    let s = c.in_ok-strips.ensures.judged (option_to_list (jpeg_of x.jpeg_offset x.jpeg_length) ++ taken) j.1 in (
      thumb_true b o c.args.directory.at x found taken c.in_ok-judge_pairs.ensures.judged.0 c.in_ok-judge_end.ensures.judged.0 j.0 s.0,
      thumbnail_is b o c.args.directory.at _ _ _ c.requires.read.fields_are
          (c.in_ok-jpeg.ensures.part ∙ ap (λ (r : Option Range). option_map (bytes_of b) r) (jpeg_is b o c.args.directory.at x found))
          (s.1 ∙ ap (λ (r : Option (List Range)). option_map (map (bytes_of b)) r) (strips_is b o c.args.directory.at x found)),
    )

pub returns-in_err-jpeg-clause-asked : goal.returns-in_err-jpeg-clause-asked
returns-in_err-jpeg-clause-asked c =
    let jpeg = c.in_err-jpeg.ensures.asked in
    omega arith

pub returns-in_err-strips-clause-asked : goal.returns-in_err-strips-clause-asked
returns-in_err-strips-clause-asked c =
    let jpeg = c.in_ok-jpeg.ensures.asked in
    let strips = c.in_err-strips.ensures.asked in
    omega arith

pub returns-in_err-strips-clause-below : goal.returns-in_err-strips-clause-below
returns-in_err-strips-clause-below c =
    let jpeg = c.in_ok-jpeg.ensures.below in
    let strips = c.in_err-strips.ensures.below in
    omega arith

pub returns-clause-asked : goal.returns-clause-asked
returns-clause-asked c =
    let jpeg = c.in_ok-jpeg.ensures.asked in
    let strips = c.in_ok-strips.ensures.asked in
    omega arith

pub returns-clause-below : goal.returns-clause-below
returns-clause-below c =
    let jpeg = c.in_ok-jpeg.ensures.below in
    let strips = c.in_ok-strips.ensures.below in
    omega arith
