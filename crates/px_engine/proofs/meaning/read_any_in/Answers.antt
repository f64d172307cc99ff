use Rattle.std.proofs.Common.{ℕ, List, length, ap, arith}
use Rattle.px_engine.proofs.Asked.{request_within}
use Rattle.px_engine.proofs.meaning.read_any_in.Goals as goal

pub returns-in_err-read_exif-in-Exif-clause-asked : goal.returns-in_err-read_exif-in-Exif-clause-asked
returns-in_err-read_exif-in-Exif-clause-asked c =
    let same = ap (λ (f : List ℕ). length f) c.block_of-bytes.ensures in
    omega (arith, same, request_within c.args.file.now, c.in_err-read_exif-in-Exif.ensures.asked)

pub returns-in_err-read_record-in-Iim-clause-asked : goal.returns-in_err-read_record-in-Iim-clause-asked
returns-in_err-read_record-in-Iim-clause-asked c =
    let same = ap (λ (f : List ℕ). length f) c.block_of-bytes.ensures in
    omega (arith, same, request_within c.args.file.now, c.in_err-read_record-in-Iim.ensures.asked)

pub returns-in_ok-read_exif-in-Exif-clause-asked : goal.returns-in_ok-read_exif-in-Exif-clause-asked
returns-in_ok-read_exif-in-Exif-clause-asked c =
    let same = ap (λ (f : List ℕ). length f) c.block_of-bytes.ensures in
    omega (arith, same, request_within c.args.file.now, c.in_ok-read_exif-in-Exif.ensures.asked)

pub returns-in_ok-read_record-in-Iim-clause-asked : goal.returns-in_ok-read_record-in-Iim-clause-asked
returns-in_ok-read_record-in-Iim-clause-asked c =
    let same = ap (λ (f : List ℕ). length f) c.block_of-bytes.ensures in
    omega (arith, same, request_within c.args.file.now, c.in_ok-read_record-in-Iim.ensures.asked)
