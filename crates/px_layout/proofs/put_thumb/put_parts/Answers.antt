use Rattle.std.proofs.Common.{rules}
use Rattle.px_meaning.specs.calls.Seen.{thumb_of}
use Rattle.px_layout.specs.lemmas.PutLaws.{both_as, first_as}
use Rattle.px_layout.specs.lemmas.StripLaws.{parts_padded}
use Rattle.std.proofs.lemmas.Result.{err_from_is_err_and}
use Rattle.px_layout.proofs.put_thumb.put_parts.Goals as goal

pub returns-in_err-put_jpeg : goal.returns-in_err-put_jpeg
returns-in_err-put_jpeg g c =
    let p = err_from_is_err_and c.from_residual.result c.from_residual.ensures.1 in
    rw p.1 (
      first_as g.W.Sink.bytes_taken _ _ c.args.pending.now _ _ _ (parts_padded (thumb_of c.args.thumb.now))
          c.in_err-put_jpeg.ensures.0,
      search rules,
    )

pub returns : goal.returns
returns g c = (
  both_as g.W.Sink.bytes_taken c.put_all_strips.result _ _ _ c.args.pending.now c.put_jpeg.new.pending c.put_all_strips.new.pending _ _ _
      (parts_padded (thumb_of c.args.thumb.now))
      c.in_ok-put_jpeg.ensures.0 c.put_all_strips.ensures.0,
  search rules,
)
