use Rattle.px_xmp.proofs.WrittenLaws.{normal_is_file}
use Rattle.px_xmp.proofs.laws.normal_is_file.Goals as goal

pub returns : goal.returns
returns c =
    normal_is_file c.normal_reads_back.ensures c.normal_bound.ensures c.fault_or_text.ensures c.start_tags_are_read.ensures
