use Rattle.std.proofs.Common.{ℕ, ◌-◌, ◌^◌, ◌∙◌, sym, ap, bit_and, eqb-true}
use Rattle.std.proofs.lemmas.Bool.{eqb-false}
use Rattle.px_bytes.proofs.marks.MarkLaws.{clear_word, marked_word}
use Rattle.px_bytes.proofs.ranges.is_word_clear.Goals as goal

pub returns-clause-clear : goal.returns-clause-clear
returns-clause-clear c = λ test.
    let mask = 2 ^ c.args.high - 2 ^ c.args.low in
    clear_word c.args.words.now c.args.at c.args.low c.args.high c.requires.bound
    (ap (λ (x : ℕ). bit_and x mask) (sym c.word_at.ensures) ∙ ap (λ (x : ℕ). bit_and c.word_at.result x) (sym c.bits.ensures)
    ∙ eqb-true _ _ test)

pub returns-clause-marked : goal.returns-clause-marked
returns-clause-marked c = λ test.
    let mask = 2 ^ c.args.high - 2 ^ c.args.low in
    marked_word c.args.words.now c.args.at c.args.low c.args.high c.requires.bound
    (λ none. eqb-false _ _ test (ap (λ (x : ℕ). bit_and c.word_at.result x) c.bits.ensures
    ∙ ap (λ (x : ℕ). bit_and x mask) c.word_at.ensures ∙ none))
