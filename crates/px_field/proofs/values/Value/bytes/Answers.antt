use Rattle.std.proofs.Common.{◌≡◌, ◌⊎◌, inl, inr, true, sym, ap, ◌∙◌}
use Rattle.px_field.specs.declared.forms.Form.{Form}
use Rattle.px_field.specs.declared.forms.Form.TheVariants.{Byte, Ascii, SByte, Undefined, Utf8}
use Rattle.px_field.specs.declared.forms.Kind.TheVariants as kind
use Rattle.px_field.specs.Values.{Value, is_bytes}
use Rattle.px_field.proofs.ViewLemmas.{bytes_shown}
use Rattle.px_field.proofs.values.Value.bytes.Goals as goal

one_of : (f : Form) → (f ≡ Byte) ⊎ ((f ≡ Ascii) ⊎ ((f ≡ SByte) ⊎ ((f ≡ Undefined) ⊎ (f ≡ Utf8)))) → is_bytes (kind.Of f) ≡ true
one_of f (inl e) = ap (λ (g : Form). is_bytes (kind.Of g)) e
one_of f (inr (inl e)) = ap (λ (g : Form). is_bytes (kind.Of g)) e
one_of f (inr (inr (inl e))) = ap (λ (g : Form). is_bytes (kind.Of g)) e
one_of f (inr (inr (inr (inl e)))) = ap (λ (g : Form). is_bytes (kind.Of g)) e
one_of f (inr (inr (inr (inr e)))) = ap (λ (g : Form). is_bytes (kind.Of g)) e

pub returns-in-Byte-clause-elements : goal.returns-in-Byte-clause-elements
returns-in-Byte-clause-elements c =
    let v = c.self.inside in
    ap (λ (w : Value). w.elements) (sym c.self.view_is)
    ∙ bytes_shown v.widened v.order v.form v.raw.now c.self.invariant.width (one_of v.form c.in-Byte.is)
