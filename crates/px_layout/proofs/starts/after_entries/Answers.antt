use Rattle.std.proofs.Common.{◌≡◌, length, sym, ◌∙◌, ap, arith}
use Rattle.px_meaning.specs.calls.Seen.{meaning_of}
use Rattle.px_meaning.specs.Entry.{table_size}
use Rattle.px_layout.specs.Normal.{even}
use Rattle.px_layout.specs.lemmas.WalkLaws.{few_there}
use Rattle.px_layout.proofs.writing.Beginnings.{ends_as, dir_there}
use Rattle.px_layout.proofs.starts.after_entries.Goals as goal

pub table_len-requires : goal.table_len-requires
table_len-requires c =
    let few = few_there (meaning_of c.args.m.now) c.args.dir c.in-Some.entries c.requires.fits (sym c.in-Some.ensures) in
    omega arith

pub returns : goal.returns
returns c =
    let d = dir_there (meaning_of c.args.m.now) c.args.dir c.args.at c.in-Some.entries (sym c.in-Some.ensures) in
    let v = c.in-Some-end_padded.ensures.0 in
    let t = c.table_len.ensures in
    let n = c.len.ensures in
    let k : even c.table_len.result ≡ even (table_size (length c.in-Some.entries)) = ap even (t ∙ ap table_size n) in
    ends_as c.after_values.result _ _ (omega arith) c.after_values.ensures
