use Rattle.std.proofs.Common.{rules, ◌∙◌}
use Rattle.px_xmp_pictures.proofs.AskLaws.{asks_for_blocks, asks_for_all}
use Rattle.px_xmp_pictures.proofs.comparing.compare_all_in.Goals as goal

pub returns-in_err-blocks-clause-asked : goal.returns-in_err-blocks-clause-asked
returns-in_err-blocks-clause-asked c = asks_for_blocks c.args.first.now c.args.second.now c.args.memory.now
    c.compare_metadata_in.new.memory c.in_err-blocks.ensures.asked

pub returns-in-Different-clause-asked : goal.returns-in-Different-clause-asked
returns-in-Different-clause-asked c = asks_for_blocks c.args.first.now c.args.second.now c.args.memory.now
    c.compare_metadata_in.new.memory c.in_ok-blocks.ensures.asked

pub returns-in_err-xmp-in_default : goal.returns-in_err-xmp-in_default
returns-in_err-xmp-in_default c = record {
  compared = search rules;
  fault = search rules;
  memory = search rules;
  asked = asks_for_all c.args.first.now c.args.second.now c.args.memory.now c.compare_metadata_in.new.memory c.compare_xmp.new.memory
      c.in_ok-blocks.ensures.asked c.in_err-xmp-in_default.ensures.asked;
}

pub returns-in_ok-xmp-in_default : goal.returns-in_ok-xmp-in_default
returns-in_ok-xmp-in_default c = record {
  compared = search rules;
  fault = tt;
  memory = c.in_ok-xmp-in_default.ensures.memory ∙ c.in_ok-blocks.ensures.memory;
  asked = asks_for_all c.args.first.now c.args.second.now c.args.memory.now c.compare_metadata_in.new.memory c.compare_xmp.new.memory
      c.in_ok-blocks.ensures.asked c.in_ok-xmp-in_default.ensures.asked;
}
