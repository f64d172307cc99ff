use Rattle.std.proofs.Common.{◌≡◌, ◌<◌, ◌≤◌, ap, ℕ, ◌∙◌, sym, arith, ◌*◌, ◌+◌, ltb-true, ltb-false}
use Rattle.px_bytes.specs.Parts.{part}
use Rattle.px_field.specs.Forms.{size}
use Rattle.px_tree.proofs.reading.Raw.{raw_placed, raw_inline, part_bounded}
use Rattle.px_tree.proofs.entry_values.raw_of.Goals as goal

pub returns-then-needs_place : goal.returns-then-needs_place
returns-then-needs_place c =
    let b = c.args.block.now in
    let o = c.args.order in
    let h = c.args.head in
    let f = c.args.form in
    let r = c.requires in
    let len : c.from.result * c.from-2.result ≡ h.count * size f = cc in
    let over : 4 < c.from.result * c.from-2.result = ltb-true 4 _ (sym c.needs_place.ensures ∙ c.if-needs_place.true) in
    let is = c.part_of.ensures ∙ ap (λ (n : ℕ). part b h.offset n) len in
    let l = part_bounded b o c.args.at h f r h.offset (h.count * size f) c.part_of.result.now is (r.whole (omega arith)) in
    record { bytes = is ∙ sym (raw_placed b o c.args.at h f r (omega arith)); size = l.0; bounded = l.1 }

pub returns : goal.returns
returns c =
    let b = c.args.block.now in
    let o = c.args.order in
    let h = c.args.head in
    let f = c.args.form in
    let r = c.requires in
    let len : c.from.result * c.from-2.result ≡ h.count * size f = cc in
    let under : c.from.result * c.from-2.result ≤ 4 = ltb-false 4 _ (sym c.needs_place.ensures ∙ c.if-needs_place.false) in
    let is = c.part_of-2.ensures ∙ ap (λ (n : ℕ). part b (c.args.at + 8) n) len in
    let l = part_bounded b o c.args.at h f r (c.args.at + 8) (h.count * size f) c.part_of-2.result.now is (let i = r.inside in omega arith)
    in
    record { bytes = is ∙ sym (raw_inline b o c.args.at h f r (omega arith)); size = l.0; bounded = l.1 }
