use Rattle.std.proofs.Common.{refl, sym, ◌∙◌, arith}
use Rattle.std.proofs.lemmas.List.{length-set}
use Rattle.px_xmp_marks.specs.Reading.{next_view}
use Rattle.px_xmp_marks.proofs.NamingLaws.{name_more, names_many, names_all}
use Rattle.px_xmp_marks.proofs.naming.read_names.Goals as goal

pub loop-next-init : goal.loop-next-init
loop-next-init c = record { within = omega arith; size = refl; left = λ attributes l. (attributes, l, refl) }

pub returns-then-len-names-clause-names : goal.returns-then-len-names-clause-names
returns-then-len-names-clause-names c attributes l =
    let v = c.loop-next.invariant in
    let size = v.size in
    let many =
    names_many c.attributes_in_order.ensures c.loop-next.len c.loop-next.names c.loop-next.rest.now attributes (next_view c.in-Some.next)
    c.if-len-names.true (v.left attributes l) (sym c.in-Some.ensures.value) in
    omega (arith, size, many)

pub loop-next-preserved : goal.loop-next-preserved
loop-next-preserved c =
    let v = c.loop-next.invariant in
    let n = c.loop-next.len in
    let names = c.loop-next.names in
    let m = c.in-Some.next.attribute.name in
    let long = length-set names n m in
    let h = c.if-len-names.false in
    let within = v.within in
    let size = v.size in
    record {
      within = omega (arith, within, h, long);
      size = long ∙ size;
      left = λ attributes l.
          name_more c.attributes_in_order.ensures n names m c.loop-next.rest.now attributes (next_view c.in-Some.next) (omega (arith, within, h))
          (v.left attributes l) (sym c.in-Some.ensures.value) refl;
    }

pub returns-clause-names : goal.returns-clause-names
returns-clause-names c attributes l =
    names_all c.attributes_in_order.ensures c.loop-next.len c.loop-next.names c.loop-next.rest.now attributes
    (c.loop-next.invariant.left attributes l) (sym c.in_default.ensures.value)
