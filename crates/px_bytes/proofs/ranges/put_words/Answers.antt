use Rattle.std.proofs.Common.{◌*◌, ◌+◌, ◌≤◌, arith, rules}
use Rattle.px_bytes.proofs.marks.MarkLaws.{put_both}
use Rattle.px_bytes.proofs.ranges.put_words.Goals as goal

pub loop-at-preserved : goal.loop-at-preserved
loop-at-preserved c =
    let from = c.args.from in
    let at = c.loop-at.at in
    let begun : from ≤ at = c.loop-at.invariant.begun in
    record {
      begun = search rules;
      near = search rules;
      puts = put_both _ _ _ (from * 64) (at * 64) (at * 64 + 0) (at * 64 + 64) ((at + 1) * 64) (omega arith) (omega arith) (omega arith)
          (omega arith) c.loop-at.invariant.puts c.put_in_word.ensures.puts;
      space = search rules;
    }
