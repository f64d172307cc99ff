use Rattle.std.proofs.Common.{◌≡◌, ◌%◌, arith}
use Rattle.px_meaning.proofs.tables.StripRuns.{ends_inside, even_more, run_more}
use Rattle.px_meaning.proofs.strip_runs.longer_run.Goals as goal

pub loop-j-preserved : goal.loop-j-preserved
loop-j-preserved c =
    let l = c.args.lists.now in
    let a = c.requires.named in
    let x = c.number_in-from.result in
    let n = c.number_in-size.result in
    let h = c.number_in-from.ensures in
    let k = c.number_in-size.ensures in
    let same = c.if-from-end.false in
    let whole = c.if-size-ne0.false in
    let e : x ≡ c.loop-j.end = omega arith in
    let q : n % 2 ≡ 0 = omega arith in
    let v = c.loop-j.invariant in
    let low = v.after in
    let rising = v.rising in
    record {
      after = omega arith;
      rising = omega arith;
      inside = ends_inside l a c.loop-j.j x n h k;
      even = even_more l a c.loop-j.j x n h k c.args.i c.args.start c.loop-j.end e v.rising v.inside v.even q;
      joined = run_more l a c.loop-j.j x n h k c.args.i c.args.start c.loop-j.end e v.rising v.inside v.even q v.joined;
    }
