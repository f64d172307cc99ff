use Rattle.std.proofs.Common.{◌++◌, ◌∙◌, sym}
use Rattle.px_xmp_pictures.specs.Joined.{name_start, name_end}
use Rattle.px_xmp_pictures.proofs.CutLaws.{cut_behind}
use Rattle.px_xmp_pictures.proofs.PointerLaws.{behind_name}
use Rattle.px_xmp_pictures.proofs.joining.pointer_at.Goals as goal

pub returns-in_default-clause-named : goal.returns-in_default-clause-named
returns-in_default-clause-named c name back names = c.in_default.ensures (name ++ (name_end ++ back)) names.begun

pub returns-in_default-after-clause-named : goal.returns-in_default-after-clause-named
returns-in_default-after-clause-named c name back names =
    c.in_default-after.ensures back
    (c.split_at.ensures.back ∙ behind_name c.args.octets.now c.in-Some.rest.now name back c.in-Some.ensures names)

pub returns-clause-named : goal.returns-clause-named
returns-clause-named c = record {
  begun =
      cut_behind c.args.octets.now name_start c.in-Some.rest.now c.split_at.result.0.now (name_end ++ c.in-Some-after.back.now) 32
      c.in-Some.ensures c.split_at.ensures.front (sym c.split_at.ensures.back ∙ c.in-Some-after.ensures);
  size = c.split_at.ensures.front_len;
}
