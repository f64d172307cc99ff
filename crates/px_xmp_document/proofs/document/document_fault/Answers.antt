use Rattle.std.proofs.Common.{◌+◌, option_map, drop, take, sym, ap, subst, ◌∙◌}
use Rattle.std.proofs.lemmas.List.{length-take-le}
use Rattle.px_xmp_document.specs.Elements.{IsElementFault}
use Rattle.px_xmp_document.proofs.DocumentLaws.{element_is_fault}
use Rattle.px_xmp_document.proofs.document.document_fault.Goals as goal

pub returns-in-Some-element_fault-clause-fault : goal.returns-in-Some-element_fault-clause-fault
returns-in-Some-element_fault-clause-fault c =
    let x = c.args.octets.now in
    let start = c.read_start-start.result in
    let f = c.in-Some-element_fault.fault in
    element_is_fault x f.cause (start.size + f.offset) (record {
      declaration = take start.size x;
      encoding = option_map (λ e. e.now) start.encoding;
      tree = drop start.size x;
      offset = f.offset;
      characters = c.in_default.ensures;
      parts = c.read_start-start.ensures.parts;
      encoded = sym c.is_read.ensures ∙ c.if-not-is_read.false;
      wrong = subst (λ y. IsElementFault y f.cause f.offset) c.split_at.ensures.back c.in-Some-element_fault.ensures;
      place = ap (λ k. k + f.offset) (sym (length-take-le start.size x c.read_start-start.ensures.within));
    })
