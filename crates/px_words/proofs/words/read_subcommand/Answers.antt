use Rattle.std.proofs.Common.{codes, refl}
use Rattle.clap.specs.Words.{found_of, rows_of}
use Rattle.px_words.proofs.matching.Named.{asked_as, both_there, file_there, no_other, out_there}
use Rattle.px_words.proofs.words.read_subcommand.Goals as goal

pub read_one-requires : goal.read_one-requires
read_one-requires c =
    let rows = rows_of (found_of c.args.inner.now) in
    file_there c.args.name.now (codes "show") rows refl c.if-eq.ensures c.requires

pub returns-then-eq : goal.returns-then-eq
returns-then-eq c =
    let rows = rows_of (found_of c.args.inner.now) in
    let reported = c.read_one in
    record {
      asked = asked_as c.args.name.now (codes "show") rows reported.result c.if-eq.ensures reported.ensures.asked;
      memory = reported.ensures.memory;
    }

pub read_one-requires-then-eq-2 : goal.read_one-requires-then-eq-2
read_one-requires-then-eq-2 c =
    let rows = rows_of (found_of c.args.inner.now) in
    file_there c.args.name.now (codes "check") rows refl c.if-eq-2.ensures c.requires

pub returns-then-eq-2 : goal.returns-then-eq-2
returns-then-eq-2 c =
    let rows = rows_of (found_of c.args.inner.now) in
    let reported = c.read_one-then-eq-2 in
    record {
      asked = asked_as c.args.name.now (codes "check") rows reported.result c.if-eq-2.ensures reported.ensures.asked;
      memory = reported.ensures.memory;
    }

pub read_one-requires-then-eq-3 : goal.read_one-requires-then-eq-3
read_one-requires-then-eq-3 c =
    let rows = rows_of (found_of c.args.inner.now) in
    file_there c.args.name.now (codes "captions") rows refl c.if-eq-3.ensures c.requires

pub returns-then-eq-3 : goal.returns-then-eq-3
returns-then-eq-3 c =
    let rows = rows_of (found_of c.args.inner.now) in
    let reported = c.read_one-then-eq-3 in
    record {
      asked = asked_as c.args.name.now (codes "captions") rows reported.result c.if-eq-3.ensures reported.ensures.asked;
      memory = reported.ensures.memory;
    }

pub read_normalise-requires : goal.read_normalise-requires
read_normalise-requires c =
    let rows = rows_of (found_of c.args.inner.now) in
    let has = out_there c.args.name.now rows c.if-eq-4.ensures c.requires in
    record { file = has.0; out = has.1 }

pub returns-then-eq-4 : goal.returns-then-eq-4
returns-then-eq-4 c =
    let rows = rows_of (found_of c.args.inner.now) in
    let reported = c.read_normalise in
    record {
      asked = asked_as c.args.name.now (codes "normalise") rows reported.result c.if-eq-4.ensures reported.ensures.asked;
      memory = reported.ensures.memory;
    }

pub read_compare-requires : goal.read_compare-requires
read_compare-requires c =
    let rows = rows_of (found_of c.args.inner.now) in
    let has = both_there c.args.name.now rows c.if-eq-5.ensures c.requires in
    record { first = has.0; second = has.1 }

pub returns-then-eq-5 : goal.returns-then-eq-5
returns-then-eq-5 c =
    let rows = rows_of (found_of c.args.inner.now) in
    let reported = c.read_compare in
    record {
      asked = asked_as c.args.name.now (codes "compare") rows reported.result c.if-eq-5.ensures reported.ensures.asked;
      memory = reported.ensures.memory;
    }

pub unreachable-requires : goal.unreachable-requires
unreachable-requires c =
    let rows = rows_of (found_of c.args.inner.now) in
    no_other c.args.name.now rows c.if-eq.ensures c.if-eq-2.ensures c.if-eq-3.ensures c.if-eq-4.ensures
    c.if-eq-5.ensures c.requires
