use Rattle.std.proofs.Common.{◌∙◌, arith}
use Rattle.px_meaning.specs.calls.Seen.{meaning_of}
use Rattle.px_plans.proofs.plans.Pieces.{on_ok, all_laid}
use Rattle.px_plans.proofs.plans.Sizes.{size_within}
use Rattle.px_plans.proofs.building.lay_all.Goals as goal

pub returns-clause-bytes : goal.returns-clause-bytes
returns-clause-bytes c =
    on_ok c.lay_header.result _ _ (all_laid c.args.layout.now (meaning_of c.args.layout.now.m.now) c.requires.fits c.requires.legal
    c.args.block.now c.lay_thumb.new.block c.lay_dirs.new.block c.lay_header.new.block
    c.requires.bare c.lay_thumb.ensures.len (c.lay_dirs.ensures.len
    ∙ c.lay_thumb.ensures.len) c.lay_thumb.ensures.bytes c.in_ok-lay_dirs.ensures.bytes) c.lay_header.ensures.bytes

pub returns-in_err-lay_dirs-clause-asked : goal.returns-in_err-lay_dirs-clause-asked
returns-in_err-lay_dirs-clause-asked c =
    omega (
      arith,
      c.in_err-lay_dirs.ensures.asked,
      size_within c.args.layout.now (meaning_of c.args.layout.now.m.now) c.requires.fits c.requires.legal,
    )

pub returns-clause-asked : goal.returns-clause-asked
returns-clause-asked c =
    omega (
      arith,
      c.in_ok-lay_dirs.ensures.paid,
      c.lay_header.ensures.asked,
      size_within c.args.layout.now (meaning_of c.args.layout.now.m.now) c.requires.fits c.requires.legal,
    )
