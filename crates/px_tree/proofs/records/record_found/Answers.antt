use Rattle.std.proofs.Common.{◌≤◌, ◌<◌, ◌+◌, ◌*◌, ℕ, length, inl, inr, sym, ◌∙◌, arith}
use Rattle.std.proofs.lemmas.Bool.{cases_lt}
use Rattle.px_field.specs.Forms.{size}
use Rattle.px_tree.proofs.reading.Raw.{whole_from}
use Rattle.px_tree.proofs.records.record_found.Goals as goal

pub raw_of-raw-requires : goal.raw_of-raw-requires
raw_of-raw-requires c =
    let r = c.requires in
    let f = c.args.found in
    let known = sym c.of.ensures ∙ c.in-Some.is in
    record {
      bounded =
          r.bounded;
      inside =
          r.inside;
      shown =
          r.shown;
      known = known;
      whole = whole_from c.args.block.now c.args.order f.place f.head c.in-Some.form r.shown known r.whole;
    }

-- a value is in its entry or at its offset, so it is no longer than the block
within_block : (n start len place : ℕ) → (4 < len → start + len ≤ n) → place + 12 ≤ n → len ≤ n
within_block n start len place far here = elim (cases_lt 4 len) [
  | inl l ↦ let end = far l in omega arith
  | inr l ↦ omega arith
]

pub returns-in-Some-clause-asked : goal.returns-in-Some-clause-asked
returns-in-Some-clause-asked c =
    let r = c.requires in
    let f = c.args.found in
    let known = sym c.of.ensures ∙ c.in-Some.is in
    let whole = whole_from c.args.block.now c.args.order f.place f.head c.in-Some.form r.shown known r.whole in
    let most = within_block (length c.args.block.now) f.head.offset (f.head.count * size c.in-Some.form) f.place whole r.inside in
    let is = c.raw_of-raw.ensures.size in
    let asked = c.record_of.ensures.asked in
    omega arith
