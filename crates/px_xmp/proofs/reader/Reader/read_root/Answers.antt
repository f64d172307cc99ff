use Rattle.std.specs.Bool.{⊤}
use Rattle.std.proofs.Common.{◌≡◌, Bool, codes, refl, sym, ap, subst, ◌∙◌}
use Rattle.px_xmp.specs.Names.{is_rdf, is_root}
use Rattle.px_xmp.specs.Nodes.{Nothing}
use Rattle.px_xmp.specs.Meaning.{IsAlone, IsRdf}
use Rattle.px_xmp.specs.Refusals.{IsNamedRdf}
use Rattle.px_xmp.specs.calls.Steps.{HasInside}
use Rattle.std.proofs.lemmas.Result.{on_ok_weaker}
use Rattle.px_xmp.proofs.RootLaws.{root_rdf, root_around, rdf_alone, around_alone}
use Rattle.px_xmp.proofs.reader.Reader.read_root.Goals as goal
use Rattle.std.proofs.lemmas.Result.{err_from_is_err_and}
use Rattle.std.proofs.lemmas.Bool.{both_ways}
use Rattle.px_xmp.proofs.RefusedLaws.{wrong_weaker, wrong_says, wrong_at}
use Rattle.px_xmp.specs.calls.Fits.{IsAhead}
use Rattle.px_xmp.proofs.AheadLaws.{memory_says}

pub returns-then-not-is_root-clause-read : goal.returns-then-not-is_root-clause-read
returns-then-not-is_root-clause-read c t has left fresh opened =
    on_ok_weaker c.read_rdf.result (root_rdf c.args.opened t c.args.self.now.source c.read_rdf.new.self.source c.read_rdf.new.subject
    c.read_rdf.new.self.output (sym c.is_root.ensures ∙ c.if-not-is_root.true) opened.0) (c.read_rdf.ensures.read t has left fresh opened)

pub returns-clause-read : goal.returns-clause-read
returns-clause-read c t has left fresh (name, language, all, listed, fields) =
    root_around c.args.opened t c.args.self.now.source c.read_around.new.self.source _ c.read_around.new.subject c.read_around.new.self.output
    (sym c.is_root.ensures ∙ c.if-not-is_root.false) name c.if-opened.false refl refl c.close.ensures
    (c.in_ok-read_around.ensures.read has left fresh)

pub returns-then-not-is_root-clause-refused : goal.returns-then-not-is_root-clause-refused
returns-then-not-is_root-clause-refused c t nodes y has left fresh opened within =
    wrong_weaker _ c.read_rdf.result _ _ (λ wrong h. absurd (both_ways (is_rdf (codes "RDF") t.name) wrong
    (rdf_alone IsNamedRdf t nodes (ap is_root (sym opened.0) ∙ sym c.is_root.ensures ∙ c.if-not-is_root.true) h)))
    (c.read_rdf.ensures.refused t opened)

pub returns-then-opened-clause-refused : goal.returns-then-opened-clause-refused
returns-then-opened-clause-refused c t nodes y has left fresh opened within =
    let none : nodes ≡ Nothing =
    (subst (λ (b : Bool). HasInside b nodes c.args.self.now.source.scope c.args.self.now.source.at c.args.self.now.source.rest.now y)
    c.if-opened.true within).0 in
    wrong_at ⊤ _ _ _ _ c.at.ensures (λ h. subst (IsAlone IsNamedRdf) none
    (around_alone IsNamedRdf t nodes (λ named. named) (ap is_root (sym opened.0) ∙ sym c.is_root.ensures ∙ c.if-not-is_root.false) h))

pub returns-in_err-read_around-clause-refused : goal.returns-in_err-read_around-clause-refused
returns-in_err-read_around-clause-refused c t nodes y has left fresh opened within =
    let p = err_from_is_err_and c.from_residual.result c.from_residual.ensures.1 in
    rw (p.1, p.2) (wrong_says ⊤ ⊤ c.in_err-read_around.field-0.0 _ _ (λ wrong h. wrong
    (around_alone IsNamedRdf t nodes (λ named. named) (ap is_root (sym opened.0) ∙ sym c.is_root.ensures ∙ c.if-not-is_root.false) h))
    (c.in_err-read_around.ensures.refused nodes y has left fresh
    (subst (λ (b : Bool). HasInside b nodes c.args.self.now.source.scope c.args.self.now.source.at c.args.self.now.source.rest.now y)
    c.if-opened.false within)))

pub returns-then-not-is_root-clause-accepts : goal.returns-then-not-is_root-clause-accepts
returns-then-not-is_root-clause-accepts c t nodes d y has fresh opened ahead tag is fits =
    c.read_rdf.ensures.accepts t nodes d y has fresh opened ahead tag
    (rdf_alone (IsRdf d) t nodes (ap is_root (sym opened.0) ∙ sym c.is_root.ensures ∙ c.if-not-is_root.true) is) fits

pub returns-then-opened-clause-accepts : goal.returns-then-opened-clause-accepts
returns-then-opened-clause-accepts c t nodes d y has fresh opened ahead tag is fits =
    let none : nodes ≡ Nothing =
    (subst (λ (b : Bool). HasInside b nodes c.args.self.now.source.scope c.args.self.now.source.at c.args.self.now.source.rest.now y)
    c.if-opened.true ahead.row).0 in
    absurd (subst (IsAlone (IsRdf d)) none
    (around_alone (IsRdf d) t nodes (λ h. h.1) (ap is_root (sym opened.0) ∙ sym c.is_root.ensures ∙ c.if-not-is_root.false) is))

pub returns-in_err-read_around-clause-accepts : goal.returns-in_err-read_around-clause-accepts
returns-in_err-read_around-clause-accepts c t nodes d y has fresh opened ahead tag is fits =
    let rdf = around_alone (IsRdf d) t nodes (λ h. h.1) (ap is_root (sym opened.0) ∙ sym c.is_root.ensures ∙ c.if-not-is_root.false) is in
    let p = err_from_is_err_and c.from_residual.result c.from_residual.ensures.1 in
    rw (p.1, p.2) (memory_says ⊤ ⊤ c.in_err-read_around.field-0.0
    (c.in_err-read_around.ensures.accepts nodes d y has fresh
    (subst (λ (b : Bool). IsAhead b nodes c.args.self.now.source y) c.if-opened.false ahead) rdf fits))
