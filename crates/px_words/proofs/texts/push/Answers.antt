use Rattle.std.proofs.Common.{◌≡◌, ◌∙◌, ◌++◌, ℕ, Bool, true, false, ap, if◌then◌else◌, is_ok, string_bytes, subst, sym}
use Rattle.std.specs.Char.{encode_utf8}
use Rattle.clap.specs.Words.{Text}
use Rattle.px_words.specs.Words.{IsPlain, IsPrintable, Then}
use Rattle.px_words.proofs.texts.push.Goals as goal

-- a printable character follows, or nothing does
pushed : (ok : Bool) (old new more : Text) (c : ℕ) → new ≡ (if ok then old ++ more else old) → more ≡ encode_utf8 c → IsPrintable c
    → IsPlain old → IsPlain new
pushed true old new more c grown is printable plain =
    subst IsPlain (sym (grown ∙ ap (λ (t : Text). old ++ t) is)) (Then old c plain printable)
pushed false old new more c grown is printable plain = subst IsPlain (sym grown) plain

pub returns : goal.returns
returns c = pushed (is_ok c.push_str.result) (string_bytes c.args.text.now) (string_bytes c.push_str.new.text) c.encode_utf8.result.now
    c.printable.result c.push_str.ensures.bytes c.encode_utf8.ensures.value c.printable.ensures c.requires
