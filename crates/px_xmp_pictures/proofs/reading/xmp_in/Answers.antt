use Rattle.std.specs.Prelude.{⊤}
use Rattle.std.proofs.Common.{subst, sym, None, inl, inr, ◌∙◌}
use Rattle.px_jpeg.specs.Pieces.{range}
use Rattle.px_pictures.specs.Unread.{IsUnread}
use Rattle.px_pictures.specs.Xmp.{IsOtherXmp}
use Rattle.px_xmp_pictures.specs.Joined.{IsLeftPacket, IsNotJoined}
use Rattle.px_xmp_pictures.specs.Xmp.{IsLeft}
use Rattle.px_xmp_pictures.proofs.LeftLaws.{left_map, left_read}
use Rattle.px_xmp_pictures.proofs.reading.xmp_in.Goals as goal

pub returns-in-Absent-clause-read : goal.returns-in-Absent-clause-read
returns-in-Absent-clause-read c = (
  subst (λ y. IsOtherXmp y None) c.requires c.in_default.ensures,
  sym c.find_xmp.ensures ∙ c.in-Absent.is,
  subst (λ y. IsUnread y c.unread.result) c.requires c.unread.ensures,
)

pub returns-in-Ok-clause-read : goal.returns-in-Ok-clause-read
returns-in-Ok-clause-read c =
    (subst (λ y. IsOtherXmp y None) c.requires c.in_default.ensures, c.in-Ok.ensures.normal, c.in-Ok.ensures.none, inr c.in-Ok.ensures.joined)

pub returns-in-Ok-only_form-clause-read : goal.returns-in-Ok-only_form-clause-read
returns-in-Ok-only_form-clause-read c = (
  subst (λ y. IsOtherXmp y None) c.requires c.in_default.ensures,
  c.in-Ok-only_form.ensures.normal,
  c.in-Ok-only_form.ensures.none,
  inl (c.in-Packet.start, c.in-Packet.size, (sym c.find_xmp.ensures ∙ c.in-Packet.is, c.in-Ok-only_form.ensures.form)),
)

pub returns-in-Err-only_form-clause-read : goal.returns-in-Err-only_form-clause-read
returns-in-Err-only_form-clause-read c =
    let left = c.left_at-in-Err-only_form in
    left_read ⊤ left.result c.args.front.now c.in-Packet.start c.in-Err-only_form.why
    (subst (λ y. IsOtherXmp y None) c.requires c.in_default.ensures)
    (left_map ⊤ ⊤ (IsLeftPacket (range c.args.front.now.octets c.in-Packet.start c.in-Packet.size))
    (IsLeft c.args.front.now c.in-Packet.start) c.in-Err-only_form.why
    (λ l. inr (c.in-Packet.size, sym c.find_xmp.ensures ∙ c.in-Packet.is, l)) c.in-Err-only_form.ensures.left)
    left.ensures.left left.ensures.why

pub returns-in-Err-clause-read : goal.returns-in-Err-clause-read
returns-in-Err-clause-read c =
    let left = c.left_at in
    left_read ⊤ left.result c.args.front.now c.in-NotRead.start c.in-Err.why
    (subst (λ y. IsOtherXmp y None) c.requires c.in_default.ensures)
    (left_map ⊤ ⊤ (IsNotJoined c.args.front.now) (IsLeft c.args.front.now c.in-NotRead.start) c.in-Err.why
    (λ n. inl (sym c.find_xmp.ensures ∙ c.in-NotRead.is, n)) c.in-Err.ensures.left)
    left.ensures.left left.ensures.why
