use Rattle.std.proofs.Common.{ℕ, slice_index, ◌-◌, ◌^◌, ◌+◌, ◌*◌, set, bit_or, get_or, subst, sym, inl, inr}
use Rattle.std.proofs.lemmas.List.{get_or_default}
use Rattle.std.proofs.lemmas.Nat.Bits.{bit_at_mask_inside}
use Rattle.px_bytes.specs.calls.Marks.{MarksRange}
use Rattle.px_bytes.proofs.marks.BitLaws.{mask_only, either_bit, left_bit, right_bit}
use Rattle.px_bytes.proofs.marks.MarkLaws.{put_word}
use Rattle.px_bytes.proofs.ranges.put_in_word.Goals as goal

pub returns-clause-puts : goal.returns-clause-puts
returns-clause-puts c =
    let words = c.args.words.now in
    let at = c.args.at in
    let low = c.args.low in
    let high = c.args.high in
    let old = get_or words at 0 in
    let mask = 2 ^ high - 2 ^ low in
    subst (λ (m : ℕ). MarksRange words (set words at (bit_or (slice_index words at) m)) (at * 64 + low) (at * 64 + high))
    (sym c.bits.ensures)
    (subst (λ (w : ℕ). MarksRange words (set words at (bit_or w mask)) (at * 64 + low) (at * 64 + high))
    (get_or_default words at 0 _ c.requires.space)
    (put_word words at low high (bit_or old mask) c.requires.space c.requires.bound
    (λ k from before. right_bit old mask k (bit_at_mask_inside low high k from before))
    (λ k l h. left_bit old mask k h)
    (λ k l h. elim (either_bit old mask k h) [ inl a ↦ inr a | inr b ↦ inl (mask_only low high k b) ])))
