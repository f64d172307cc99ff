use Rattle.std.proofs.Common.{◌∙◌, sym}
use Rattle.px_xmp_forms.proofs.UriLaws.{absolute_from, absolute_splits}
use Rattle.px_xmp_forms.proofs.spaces.is_absolute.Goals as goal

pub returns-then-not-starts_with : goal.returns-then-not-starts_with
returns-then-not-starts_with c = (
  λ e. absurd (cc),
  λ h.
      let parts = absolute_splits c.args.value.now c.split_at.result.0.now c.split_at.result.1.now c.scheme_len.result c.scheme_len.ensures.first
      c.split_at.ensures.front c.split_at.ensures.back h in
      sym c.if-not-starts_with.true ∙ c.starts_with.ensures.value ∙ parts.colon,
)

pub returns-then-is_scheme : goal.returns-then-is_scheme
returns-then-is_scheme c = (
  λ e.
      absolute_from c.args.value.now c.split_at.result.0.now c.split_at.result.1.now _ c.split_at.ensures.front c.split_at.ensures.back
      (sym c.are_uri_octets.ensures ∙ e) (sym c.is_scheme.ensures ∙ c.if-is_scheme.true)
      (sym c.starts_with.ensures.value ∙ c.if-not-starts_with.false),
  λ h. c.are_uri_octets.ensures ∙ h.0,
)

pub returns-else-is_scheme : goal.returns-else-is_scheme
returns-else-is_scheme c = (
  λ e. absurd (cc),
  λ h.
      let parts = absolute_splits c.args.value.now c.split_at.result.0.now c.split_at.result.1.now c.scheme_len.result c.scheme_len.ensures.first
      c.split_at.ensures.front c.split_at.ensures.back h in
      c.is_scheme.ensures ∙ parts.is,
)
