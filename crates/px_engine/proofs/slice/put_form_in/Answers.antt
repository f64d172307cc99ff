use Rattle.std.proofs.Common.{ℕ, List, length, sym, ◌∙◌, ap, arith}
use Rattle.px_engine.proofs.Asked.{request_within}
use Rattle.px_engine.proofs.Puts.{block_puts, block_unput}
use Rattle.px_engine.proofs.slice.put_form_in.Goals as goal

pub returns-in-Exif-clause-put : goal.returns-in-Exif-clause-put
returns-in-Exif-clause-put c =
    block_puts c.args.file.now _ _ (sym c.in-Exif.is ∙ c.kind_of.ensures) c.block_of-block.ensures c.put_exif_in.result _ _
    c.put_exif_in.ensures.put

pub returns-in-Exif-clause-unwritten : goal.returns-in-Exif-clause-unwritten
returns-in-Exif-clause-unwritten c =
    block_unput c.args.file.now _ _ (sym c.in-Exif.is ∙ c.kind_of.ensures) c.block_of-block.ensures c.put_exif_in.result _
    c.put_exif_in.ensures.unput

pub returns-in-Exif-clause-asked : goal.returns-in-Exif-clause-asked
returns-in-Exif-clause-asked c =
    let same = ap (λ (f : List ℕ). length f) c.block_of-block.ensures in
    omega (arith, same, request_within c.args.file.now, c.put_exif_in.ensures.asked)

pub returns-in-Iim-clause-put : goal.returns-in-Iim-clause-put
returns-in-Iim-clause-put c =
    block_puts c.args.file.now _ _ (sym c.in-Iim.is ∙ c.kind_of.ensures) c.block_of-block.ensures c.put_record_in.result _ _
    c.put_record_in.ensures.put

pub returns-in-Iim-clause-unwritten : goal.returns-in-Iim-clause-unwritten
returns-in-Iim-clause-unwritten c =
    block_unput c.args.file.now _ _ (sym c.in-Iim.is ∙ c.kind_of.ensures) c.block_of-block.ensures c.put_record_in.result _
    c.put_record_in.ensures.unput

pub returns-in-Iim-clause-asked : goal.returns-in-Iim-clause-asked
returns-in-Iim-clause-asked c =
    let same = ap (λ (f : List ℕ). length f) c.block_of-block.ensures in
    omega (arith, same, request_within c.args.file.now, c.put_record_in.ensures.asked)
