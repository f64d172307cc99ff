use Rattle.std.proofs.Common.{◌∷◌, [], option_map, length, arith}
use Rattle.std.proofs.lemmas.Result.{err_from_is_err_and}
use Rattle.px_bytes.specs.Range.{range}
use Rattle.px_tree.specs.declared.tables.Directory.{Directory}
use Rattle.px_meaning.specs.Directory.{dirs}
use Rattle.px_tree.specs.Checks.{dirs_claimed}
use Rattle.px_tree.specs.calls.ReadTree.{main_claimed}
use Rattle.px_tree.proofs.assembling.Started.{main_refuses_tree, others_refuse_tree, whole_dirs, main_is_alone, alone_true}
use Rattle.px_tree.proofs.assembling.Assembled.{thumb_read, thumb_refuses_tree, tree_true, all_in_order}
use Rattle.px_tree.proofs.reading.Paying.{paid_most, paid_none, extent_none}
use Rattle.px_tree.proofs.judging.judge_tree.Goals as goal

pub is_alone-requires-clause-has_table : goal.is_alone-requires-clause-has_table
is_alone-requires-clause-has_table c = c.in_ok-main.ensures.judged.1.0.table

pub returns-then-is_alone-clause-judged : goal.returns-then-is_alone-clause-judged
returns-then-is_alone-clause-judged c =
    let b = c.args.block.now in
    let o = c.args.order in
    let m = c.in_ok-main.ensures.judged in
    let is = c.if-is_alone.true in
    let alone = c.is_alone.ensures in
    (alone_true b o m.0 (main_is_alone b o _ _ m.1.0 (alone.exif is) (alone.gps is) (alone.next is)), tt)

pub read_others-requires-clause-read : goal.read_others-requires-clause-read
read_others-requires-clause-read c = c.in_ok-main.ensures.judged.1.0

pub returns-in_err-main-clause-judged : goal.returns-in_err-main-clause-judged
returns-in_err-main-clause-judged c =
    let p = err_from_is_err_and c.from_residual-in_err-main.result c.from_residual-in_err-main.ensures.1 in
    rw (p.1, p.2) (main_refuses_tree c.args.block.now c.args.order c.in_err-main.field-0.0 c.in_err-main.ensures.judged)

pub returns-in_err-directories-clause-judged : goal.returns-in_err-directories-clause-judged
returns-in_err-directories-clause-judged c =
    let p = err_from_is_err_and c.from_residual-in_err-directories.result c.from_residual-in_err-directories.ensures.1 in
    let b = c.args.block.now in
    let o = c.args.order in
    let m = c.in_ok-main.ensures.judged in
    rw (p.1, p.2) (others_refuse_tree b o m.0 c.in_err-directories.field-0.0 (c.in_err-directories.ensures.judged (main_claimed b o) m.1.1))

pub read_thumb-requires-clause-read : goal.read_thumb-requires-clause-read
read_thumb-requires-clause-read c =
    let b = c.args.block.now in
    let o = c.args.order in
    let m = c.in_ok-main.ensures.judged in
    let d = whole_dirs b o m.0 _ _ _ (c.in_ok-directories.ensures.judged (main_claimed b o) m.1.1) in
    thumb_read b o c.in_ok-directories.directories.thumb d.1.0.thumb_read d.1.0.thumb (all_in_order b o d.0).1.1.1.1.0

pub returns-in_err-thumb-clause-judged : goal.returns-in_err-thumb-clause-judged
returns-in_err-thumb-clause-judged c =
    let p = err_from_is_err_and c.from_residual-in_err-thumb.result c.from_residual-in_err-thumb.ensures.1 in
    let b = c.args.block.now in
    let o = c.args.order in
    let m = c.in_ok-main.ensures.judged in
    let d = whole_dirs b o m.0 _ _ _ (c.in_ok-directories.ensures.judged (main_claimed b o) m.1.1) in
    rw (p.1, p.2) (thumb_refuses_tree b o (option_map (λ (t : Directory). t.at) c.in_ok-directories.directories.thumb)
    d.1.0.thumb_read.offset_at d.0 c.in_err-thumb.field-0.0
    (c.in_err-thumb.ensures.judged (dirs_claimed b o (range 0 8 ∷ []) dirs) d.1.1))

pub returns-in_err-main-clause-asked : goal.returns-in_err-main-clause-asked
returns-in_err-main-clause-asked c =
    let paid_first = paid_none c.in_ok-claimed.claimed c.in_ok-claimed.ensures.none in
    let extent_first = extent_none c.in_ok-claimed.claimed c.in_ok-claimed.ensures.none in
    let marks = c.in_ok-claimed.ensures.asked in
    let asked = c.in_err-main.ensures.asked in
    let below = c.in_err-main.ensures.below in
    let most = paid_most c.read_main.new.claimed (length c.args.block.now) (omega arith) in
    omega arith

pub returns-in_err-directories-clause-asked : goal.returns-in_err-directories-clause-asked
returns-in_err-directories-clause-asked c =
    let paid_first = paid_none c.in_ok-claimed.claimed c.in_ok-claimed.ensures.none in
    let extent_first = extent_none c.in_ok-claimed.claimed c.in_ok-claimed.ensures.none in
    let marks = c.in_ok-claimed.ensures.asked in
    let asked0 = c.in_ok-main.ensures.asked in
    let below0 = c.in_ok-main.ensures.below in
    let asked = c.in_err-directories.ensures.asked in
    let below = c.in_err-directories.ensures.below in
    let most = paid_most c.read_others.new.claimed (length c.args.block.now) (omega arith) in
    omega arith

pub returns-in_err-thumb-clause-asked : goal.returns-in_err-thumb-clause-asked
returns-in_err-thumb-clause-asked c =
    let paid_first = paid_none c.in_ok-claimed.claimed c.in_ok-claimed.ensures.none in
    let extent_first = extent_none c.in_ok-claimed.claimed c.in_ok-claimed.ensures.none in
    let marks = c.in_ok-claimed.ensures.asked in
    let asked0 = c.in_ok-main.ensures.asked in
    let below0 = c.in_ok-main.ensures.below in
    let asked1 = c.in_ok-directories.ensures.asked in
    let below1 = c.in_ok-directories.ensures.below in
    let asked = c.in_err-thumb.ensures.asked in
    let below = c.in_err-thumb.ensures.below in
    let most = paid_most c.read_thumb.new.claimed (length c.args.block.now) (omega arith) in
    omega arith

pub returns-clause-judged : goal.returns-clause-judged
returns-clause-judged c =
    let b = c.args.block.now in
    let o = c.args.order in
    let m = c.in_ok-main.ensures.judged in
    let d = whole_dirs b o m.0 _ _ _ (c.in_ok-directories.ensures.judged (main_claimed b o) m.1.1) in
    let t = c.in_ok-thumb.ensures.judged (dirs_claimed b o (range 0 8 ∷ []) dirs) d.1.1 in
    let a = option_map (λ (t : Directory). t.at) c.in_ok-directories.directories.thumb in
    (tree_true b o a d.1.0.thumb_read.offset_at d.0 t.0, tt)

pub returns-clause-asked : goal.returns-clause-asked
returns-clause-asked c =
    let paid_first = paid_none c.in_ok-claimed.claimed c.in_ok-claimed.ensures.none in
    let extent_first = extent_none c.in_ok-claimed.claimed c.in_ok-claimed.ensures.none in
    let marks = c.in_ok-claimed.ensures.asked in
    let asked0 = c.in_ok-main.ensures.asked in
    let below0 = c.in_ok-main.ensures.below in
    let asked1 = c.in_ok-directories.ensures.asked in
    let below1 = c.in_ok-directories.ensures.below in
    let asked2 = c.in_ok-thumb.ensures.asked in
    let below2 = c.in_ok-thumb.ensures.below in
    let most = paid_most c.read_thumb.new.claimed (length c.args.block.now) (omega arith) in
    omega arith

pub returns-then-is_alone-clause-asked : goal.returns-then-is_alone-clause-asked
returns-then-is_alone-clause-asked c =
    let paid_first = paid_none c.in_ok-claimed.claimed c.in_ok-claimed.ensures.none in
    let extent_first = extent_none c.in_ok-claimed.claimed c.in_ok-claimed.ensures.none in
    let marks = c.in_ok-claimed.ensures.asked in
    let asked0 = c.in_ok-main.ensures.asked in
    let below0 = c.in_ok-main.ensures.below in
    let most = paid_most c.read_main.new.claimed (length c.args.block.now) (omega arith) in
    omega arith
