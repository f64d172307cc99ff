use Rattle.std.proofs.Common.{arith}
use Rattle.px_iim.specs.lemmas.EncodingLaws.{dataset_holds}
use Rattle.px_iim.proofs.reading.Octets.{dataset_value}
use Rattle.px_iim.proofs.dataset.judged_dataset.Goals as goal

pub form-pair-requires : goal.form-pair-requires
form-pair-requires c = (dataset_holds c.args.octets.now c.requires).five

pub count-count-requires-clause-there : goal.count-count-requires-clause-there
count-count-requires-clause-there c = (dataset_holds c.args.octets.now c.requires).counted

pub count-count-requires-clause-formed : goal.count-count-requires-clause-formed
count-count-requires-clause-formed c = (dataset_holds c.args.octets.now c.requires).formed

pub bounds-octets-1 : goal.bounds-octets-1
bounds-octets-1 c = let l = (dataset_holds c.args.octets.now c.requires).five in omega arith

pub bounds-octets-2 : goal.bounds-octets-2
bounds-octets-2 c = let l = (dataset_holds c.args.octets.now c.requires).five in omega arith

pub slice_bounds-result-end : goal.slice_bounds-result-end
slice_bounds-result-end c =
    let x = c.args.octets.now in
    let l = (dataset_holds x c.requires).whole in
    let k = c.extra.ensures.value x c.form-pair.ensures.value in
    let n = c.count-count.ensures in
    omega arith

pub returns : goal.returns
returns c =
    let x = c.args.octets.now in
    let f = c.form-pair.ensures.value in
    let k = c.extra.ensures.value x f in
    let n = c.count-count.ensures in
    record {
      there = c.requires;
      value = dataset_value x c.extra.result c.count-count.result k n;
      sized = omega arith;
    }
