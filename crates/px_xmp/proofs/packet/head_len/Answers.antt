use Rattle.px_xmp.proofs.PacketLaws.{head_splits}
use Rattle.px_xmp.proofs.packet.head_len.Goals as goal

pub returns-clause-parts : goal.returns-clause-parts
returns-clause-parts c =
    head_splits c.args.document.now _ c.order_mark_len-mark.result c.declaration_len.result c.order_mark_len-mark.ensures.value
    c.split_at.ensures.back c.declaration_len.ensures.parts
