use Rattle.std.proofs.Common.{subst}
use Rattle.px_xmp_forms.specs.Outputs.{first_entries}
use Rattle.px_xmp.specs.declared.elements.Node.{Node}
use Rattle.px_xmp.specs.calls.Fits.{JoinFits}
use Rattle.px_xmp.proofs.content.join_node.Goals as goal

pub returns-in-Description-clause-accepts : goal.returns-in-Description-clause-accepts
returns-in-Description-clause-accepts c s has fits =
    let (distinct, short) = subst (λ (z : Node). JoinFits z (first_entries s.opened)) c.in-Description.is fits in
    c.join_properties.ensures.accepts s has distinct short

pub returns-in-Container-clause-accepts : goal.returns-in-Container-clause-accepts
returns-in-Container-clause-accepts c s has fits =
    c.join_members.ensures.accepts s has (subst (λ (z : Node). JoinFits z (first_entries s.opened)) c.in-Container.is fits)
