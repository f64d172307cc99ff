use Rattle.std.proofs.Common.{◌≡◌, ◌≤◌, ◌∙◌, ℕ, List, length, map, arith, ap}
use Rattle.px_bytes.specs.Parts.{limit}
use Rattle.px_bytes.specs.lemmas.EachLaws.{all_at}
use Rattle.px_bytes.specs.lemmas.NumberLaws.{length_spelling}
use Rattle.px_layout.specs.Laid.{long_bytes}
use Rattle.px_layout.specs.lemmas.PutLaws.{encoded_more}
use Rattle.px_layout.proofs.put_strips.encode_each.Goals as goal

abbrev size : List ℕ → ℕ
size x = length x

pub overflow_cast-len_at : goal.overflow_cast-len_at
overflow_cast-len_at c =
    omega (
      arith,
      all_at (λ n. n ≤ limit) (map size c.args.strips.now) c.loop-i.i c.len_at.result c.requires.short
          c.len_at.ensures,
    )

pub loop-i-preserved : goal.loop-i-preserved
loop-i-preserved c =
    let long : length c.put32.new.bytes ≡ 4 = ap length c.put32.ensures ∙ length_spelling c.args.order 4 _ in
    let low = c.loop-i.invariant.after in
    record {
      after = omega arith;
      encoded = encoded_more (long_bytes c.args.order) (map size c.args.strips.now) c.args.start c.loop-i.i c.len_at.result
          _ _ _ c.loop-i.into c.put32.new.bytes c.len_at.ensures c.put32.ensures
          c.loop-i.invariant.encoded (omega arith) (let space = c.requires.space in let same = c.loop-i.auto.into in omega arith);
    }
