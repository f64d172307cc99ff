use Rattle.std.specs.Bool.{⊤}
use Rattle.std.proofs.Common.{◌≡◌, ◌≤◌, inl, inr, Option, MatchOption, List, [], ℕ, refl, sym, subst, ◌∙◌, arith, length, length-drop}
use Rattle.px_bytes.specs.Parts.{limit}
use Rattle.px_xmp_text.specs.Values.{normal_packet}
use Rattle.px_xmp_document.specs.Document.{IsFile}
use Rattle.px_xmp_document.specs.Faults.{IsFileFault}
use Rattle.px_xmp_document.specs.declared.faults.Fault.{Fault}
use Rattle.px_xmp.specs.Laws.{IsFormOf}
use Rattle.px_xmp.specs.Accepted.{FormFits}
use Rattle.px_xmp.specs.calls.Steps.{IsLeft}
use Rattle.std.proofs.lemmas.Result.{err_from_is_err_and}
use Rattle.px_xmp_text.specs.Values.{Content}
use Rattle.px_xmp.specs.Nodes.{AreNodes}
use Rattle.px_xmp.specs.Meaning.{HasRoot, HasMeaning}
use Rattle.px_xmp.proofs.FormedLaws.{head_leaves, form_of, form_again, rows_of, if_ok_map, if_ok_both}
use Rattle.px_xmp.proofs.RefusedLaws.{rare_at, rare_wrong, wrong_at, wrong_all, wrong_says}
use Rattle.px_xmp.proofs.DocumentFitLaws.{file_not_crowded, rest_fits, fits_few}
use Rattle.px_xmp.specs.Refusals.{IsNamedRdf, IsRefusedDocument}
use Rattle.px_xmp.proofs.RootLaws.{one_subject, means_rdf, several_subjects}
use Rattle.px_xmp.specs.Limits.{NoneCrowded}
use Rattle.px_xmp.proofs.LayerLaws.{refused_at, no_count, file_within, rdf_refused, rare_refused}
use Rattle.px_xmp.proofs.packet.document_form.Goals as goal

pub returns-clause-form : goal.returns-clause-form
returns-clause-form c few =
    let x = c.args.document.now in
    let head = c.head_len-head.result in
    let source = c.new-reader.result.source in
    let (d, e, parts) = c.head_len-head.ensures.parts in
    let within = c.head_len-head.ensures.within in
    let place = c.saturating_add-2.ensures in
    let at = c.new-reader.ensures.at in
    let same = c.new-reader.ensures.rest ∙ c.split_at-2.ensures.back in
    let file : IsFile x =
    subst (λ (z : Option Fault). MatchOption z (IsFile x) (λ f. IsFileFault x f.cause f.offset)) c.in_default-first_fault.is c.first_fault.ensures in
    let left : IsLeft source.at source.rest.now =
    subst (λ (z : List ℕ). IsLeft source.at z) (sym same)
    (head_leaves c.declarations_are_read.ensures x d e head source.at file parts (omega (arith, at, place, few, length-drop head x, within))) in
    let (nodes, content, row, means, shallow, has) = c.in_ok-read_document.ensures.read (c.new-reader.ensures.output refl) left (refl, refl) c.in_default-other.is in
    if_ok_map c.whole.result (λ form. form.items ≡ normal_packet content) (λ form. IsFormOf x c.args.start form.items) (λ form is.
    form_of x d e c.args.start head source.at source.scope source.rest.now nodes content c.read_document.new.self.output form.items
    parts within (omega (arith, at, place, few, within)) c.new-reader.ensures.scope same row means has is)
    (c.whole.ensures.value (record { opened = []; properties = content }) has)

pub returns-clause-readable : goal.returns-clause-readable
returns-clause-readable c few =
    let x = c.args.document.now in
    let head = c.head_len-head.result in
    let source = c.new-reader.result.source in
    let (d, e, parts) = c.head_len-head.ensures.parts in
    let within = c.head_len-head.ensures.within in
    let place = c.saturating_add-2.ensures in
    let at = c.new-reader.ensures.at in
    let same = c.new-reader.ensures.rest ∙ c.split_at-2.ensures.back in
    let file : IsFile x =
    subst (λ (z : Option Fault). MatchOption z (IsFile x) (λ f. IsFileFault x f.cause f.offset)) c.in_default-first_fault.is c.first_fault.ensures in
    let left : IsLeft source.at source.rest.now =
    subst (λ (z : List ℕ). IsLeft source.at z) (sym same)
    (head_leaves c.declarations_are_read.ensures x d e head source.at file parts (omega (arith, at, place, few, length-drop head x, within))) in
    let (nodes, content, row, means, shallow, has) = c.in_ok-read_document.ensures.read (c.new-reader.ensures.output refl) left (refl, refl) c.in_default-other.is in
    if_ok_both c.whole.result (λ form. form.items ≡ normal_packet content) (λ form. length form.items ≤ limit) (λ form. FormFits form.items) (λ form is bound.
    form_again c.meanings_are_readable.ensures x d e c.args.start head source.at source.scope source.rest.now nodes content
    c.read_document.new.self.output form.items file parts within (omega (arith, at, place, few, within)) c.new-reader.ensures.scope same row means
    shallow has is bound)
    (c.whole.ensures.value (record { opened = []; properties = content }) has) c.whole.ensures.bound

pub returns-in-Some-clause-refused : goal.returns-in-Some-clause-refused
returns-in-Some-clause-refused c few = rare_at ⊤ _ _ _ _ c.at.ensures refl

pub returns-in-Some-first_fault-clause-refused : goal.returns-in-Some-first_fault-clause-refused
returns-in-Some-first_fault-clause-refused c few =
    let x = c.args.document.now in
    let f = c.in-Some-first_fault.fault in
    let wrong : IsFileFault x f.cause f.offset =
    subst (λ (z : Option Fault). MatchOption z (IsFile x) (λ g. IsFileFault x g.cause g.offset)) c.in-Some-first_fault.is c.first_fault.ensures in
    wrong_at ⊤ _ _ _ _ c.at-in-Some-first_fault.ensures (λ d file means. (c.one_fault.ensures x f.cause f.offset wrong).0 file)

pub returns-in_err-read_document-clause-refused : goal.returns-in_err-read_document-clause-refused
returns-in_err-read_document-clause-refused c few =
    let x = c.args.document.now in
    let head = c.head_len-head.result in
    let source = c.new-reader.result.source in
    let (d, e, parts) = c.head_len-head.ensures.parts in
    let within = c.head_len-head.ensures.within in
    let place = c.saturating_add-2.ensures in
    let at = c.new-reader.ensures.at in
    let same = c.new-reader.ensures.rest ∙ c.split_at-2.ensures.back in
    let file : IsFile x =
    subst (λ (z : Option Fault). MatchOption z (IsFile x) (λ f. IsFileFault x f.cause f.offset)) c.in_default-first_fault.is c.first_fault.ensures in
    let left : IsLeft source.at source.rest.now =
    subst (λ (z : List ℕ). IsLeft source.at z) (sym same)
    (head_leaves c.declarations_are_read.ensures x d e head source.at file parts (omega (arith, at, place, few, length-drop head x, within))) in
    let rows : (t : Content) (m : HasMeaning x c.args.start t) → AreNodes m.nodes source.scope source.at source.rest.now [] =
    λ t m. rows_of c.declarations_are_read.ensures x d e c.args.start head source.at source.scope source.rest.now m.nodes parts
    (omega (arith, within)) (omega (arith, at, place, few, within)) c.new-reader.ensures.scope same m.are in
    let p = err_from_is_err_and c.from_residual.result c.from_residual.ensures.1 in
    rw (p.1, p.2) (wrong_says ⊤ ⊤ c.in_err-read_document.field-0.0 ((a : (t : Content) × HasMeaning x c.args.start t) → ⊥) _ (λ f t is m. f (t, m))
    (wrong_all ⊤ ⊤ c.in_err-read_document.field-0.0 ((t : Content) × HasMeaning x c.args.start t) (λ a. ⊥) (λ a.
    wrong_says ⊤ ⊤ c.in_err-read_document.field-0.0 (HasRoot IsNamedRdf a.1.nodes → ⊥) ⊥ (λ f. f (means_rdf a.1.nodes a.0 a.1.means))
    (c.in_err-read_document.ensures.refused a.1.nodes (c.new-reader.ensures.output refl) left (refl, refl) (rows a.0 a.1)))))

pub returns-in-Some-other-clause-refused : goal.returns-in-Some-other-clause-refused
returns-in-Some-other-clause-refused c few =
    let x = c.args.document.now in
    let head = c.head_len-head.result in
    let source = c.new-reader.result.source in
    let (d, e, parts) = c.head_len-head.ensures.parts in
    let within = c.head_len-head.ensures.within in
    let place = c.saturating_add-2.ensures in
    let at = c.new-reader.ensures.at in
    let same = c.new-reader.ensures.rest ∙ c.split_at-2.ensures.back in
    let file : IsFile x =
    subst (λ (z : Option Fault). MatchOption z (IsFile x) (λ f. IsFileFault x f.cause f.offset)) c.in_default-first_fault.is c.first_fault.ensures in
    let left : IsLeft source.at source.rest.now =
    subst (λ (z : List ℕ). IsLeft source.at z) (sym same)
    (head_leaves c.declarations_are_read.ensures x d e head source.at file parts (omega (arith, at, place, few, length-drop head x, within))) in
    wrong_at ⊤ _ _ _ _ c.at-in-Some-other.ensures (λ t is m.
    let row : AreNodes m.nodes source.scope source.at source.rest.now [] =
    rows_of c.declarations_are_read.ensures x d e c.args.start head source.at source.scope source.rest.now m.nodes parts
    (omega (arith, within)) (omega (arith, at, place, few, within)) c.new-reader.ensures.scope same m.are in
    let none = one_subject c.read_document.new.subject t m.nodes
    (c.in_ok-read_document.ensures.subject m.nodes (c.new-reader.ensures.output refl) left (refl, refl) row) m.means in
    let other = sym none ∙ c.in-Some-other.is in
    absurd (cc))

pub returns-clause-refused : goal.returns-clause-refused
returns-clause-refused c few = rare_wrong _ c.whole.result _ c.whole.ensures.rare

pub returns-in-Some-clause-accepts : goal.returns-in-Some-clause-accepts
returns-in-Some-clause-accepts c few h =
    let (d, e, parts) = c.head_len-head.ensures.parts in
    absurd (file_not_crowded c.marks_are_read.ensures c.start_tags_are_read.ensures c.declarations_are_read.ensures c.args.document.now d _ e
    c.head_len-head.result c.in-Some.at h.file parts c.split_at.ensures.back c.in-Some.ensures.crowded)

pub returns-in-Some-first_fault-clause-accepts : goal.returns-in-Some-first_fault-clause-accepts
returns-in-Some-first_fault-clause-accepts c few h =
    let x = c.args.document.now in
    let f = c.in-Some-first_fault.fault in
    let wrong : IsFileFault x f.cause f.offset =
    subst (λ (z : Option Fault). MatchOption z (IsFile x) (λ g. IsFileFault x g.cause g.offset)) c.in-Some-first_fault.is c.first_fault.ensures in
    absurd ((c.one_fault.ensures x f.cause f.offset wrong).0 h.file)

pub returns-in_err-read_document-clause-accepts : goal.returns-in_err-read_document-clause-accepts
returns-in_err-read_document-clause-accepts c few h =
    let source = c.new-reader.result.source in
    let (d, e, parts) = c.head_len-head.ensures.parts in
    let within = c.head_len-head.ensures.within in
    let place = c.saturating_add-2.ensures in
    let at = c.new-reader.ensures.at in
    let same = c.new-reader.ensures.rest ∙ c.split_at-2.ensures.back in
    let rest = rest_fits c.declarations_are_read.ensures c.meanings_are_readable.ensures c.args.document.now d e c.args.start c.head_len-head.result source.at source.scope
    source.rest.now h parts within (omega (arith, at, place, few, within)) c.new-reader.ensures.scope same few in
    let p = err_from_is_err_and c.from_residual.result c.from_residual.ensures.1 in
    rw (p.1, p.2) (c.in_err-read_document.ensures.accepts h.meaning.nodes h.content (c.new-reader.ensures.output refl) rest.left (refl, refl)
    rest.row rest.fit h.meaning.means rest.fits)

pub returns-in-Some-other-clause-accepts : goal.returns-in-Some-other-clause-accepts
returns-in-Some-other-clause-accepts c few h =
    let source = c.new-reader.result.source in
    let (d, e, parts) = c.head_len-head.ensures.parts in
    let within = c.head_len-head.ensures.within in
    let place = c.saturating_add-2.ensures in
    let at = c.new-reader.ensures.at in
    let same = c.new-reader.ensures.rest ∙ c.split_at-2.ensures.back in
    let rest = rest_fits c.declarations_are_read.ensures c.meanings_are_readable.ensures c.args.document.now d e c.args.start c.head_len-head.result source.at source.scope
    source.rest.now h parts within (omega (arith, at, place, few, within)) c.new-reader.ensures.scope same few in
    let none = one_subject c.read_document.new.subject h.content h.meaning.nodes
    (c.in_ok-read_document.ensures.subject h.meaning.nodes (c.new-reader.ensures.output refl) rest.left (refl, refl) rest.row) h.meaning.means in
    let other = sym none ∙ c.in-Some-other.is in
    absurd (cc)

pub returns-clause-accepts : goal.returns-clause-accepts
returns-clause-accepts c few h =
    let source = c.new-reader.result.source in
    let (d, e, parts) = c.head_len-head.ensures.parts in
    let within = c.head_len-head.ensures.within in
    let place = c.saturating_add-2.ensures in
    let at = c.new-reader.ensures.at in
    let same = c.new-reader.ensures.rest ∙ c.split_at-2.ensures.back in
    let rest = rest_fits c.declarations_are_read.ensures c.meanings_are_readable.ensures c.args.document.now d e c.args.start c.head_len-head.result source.at source.scope
    source.rest.now h parts within (omega (arith, at, place, few, within)) c.new-reader.ensures.scope same few in
    let (nodes, content, row, means, shallow, has) =
    c.in_ok-read_document.ensures.read (c.new-reader.ensures.output refl) rest.left (refl, refl) c.in_default-other.is in
    c.whole.ensures.accepts (record { opened = []; properties = content }) has
    (fits_few c.one_meaning.ensures c.meanings_are_readable.ensures c.args.document.now d e c.args.start c.head_len-head.result source.at source.scope source.rest.now h parts within
    (omega (arith, at, place, few, within)) c.new-reader.ensures.scope same nodes content row means has.can)

pub returns-in-Some-first_fault-clause-layer : goal.returns-in-Some-first_fault-clause-layer
returns-in-Some-first_fault-clause-layer c few =
    let x = c.args.document.now in
    let f = c.in-Some-first_fault.fault in
    let wrong : IsFileFault x f.cause f.offset =
    subst (λ (z : Option Fault). MatchOption z (IsFile x) (λ g. IsFileFault x g.cause g.offset)) c.in-Some-first_fault.is c.first_fault.ensures in
    let (d, e, parts) = c.head_len-head.ensures.parts in
    let within = file_within x f.cause f.offset wrong in
    refused_at ⊤ _ c.cause_of.result c.saturating_add-in-Some-first_fault.result (IsRefusedDocument x c.args.start) c.at-in-Some-first_fault.ensures
    (inr (inl (record {
      few = no_count c.declarations_are_read.ensures x d e c.head_len-head.result parts
          (subst NoneCrowded c.split_at.ensures.back c.in_default.ensures);
      fault = f.cause;
      offset = f.offset;
      first = wrong;
      is = c.cause_of.ensures within;
      at = omega (arith, c.saturating_add-in-Some-first_fault.ensures, few, within);
    })))

pub returns-in_err-read_document-clause-layer : goal.returns-in_err-read_document-clause-layer
returns-in_err-read_document-clause-layer c few =
    let x = c.args.document.now in
    let head = c.head_len-head.result in
    let source = c.new-reader.result.source in
    let (d, e, parts) = c.head_len-head.ensures.parts in
    let within = c.head_len-head.ensures.within in
    let place = c.saturating_add-2.ensures in
    let at = c.new-reader.ensures.at in
    let same = c.new-reader.ensures.rest ∙ c.split_at-2.ensures.back in
    let file : IsFile x =
    subst (λ (z : Option Fault). MatchOption z (IsFile x) (λ f. IsFileFault x f.cause f.offset)) c.in_default-first_fault.is c.first_fault.ensures in
    let left : IsLeft source.at source.rest.now =
    subst (λ (z : List ℕ). IsLeft source.at z) (sym same)
    (head_leaves c.declarations_are_read.ensures x d e head source.at file parts (omega (arith, at, place, few, length-drop head x, within))) in
    let (nodes, are) = c.files_have_nodes.ensures x c.args.start file in
    let row : AreNodes nodes source.scope source.at source.rest.now [] =
    rows_of c.declarations_are_read.ensures x d e c.args.start head source.at source.scope source.rest.now nodes parts
    (omega (arith, within)) (omega (arith, at, place, few, within)) c.new-reader.ensures.scope same are in
    let p = err_from_is_err_and c.from_residual.result c.from_residual.ensures.1 in
    rw (p.1, p.2) (rdf_refused ⊤ ⊤ c.in_err-read_document.field-0.0 x c.args.start nodes file are c.in_err-read_document.ensures.rdf
    (c.in_err-read_document.ensures.refused nodes (c.new-reader.ensures.output refl) left (refl, refl) row))

pub returns-in-Some-other-clause-layer : goal.returns-in-Some-other-clause-layer
returns-in-Some-other-clause-layer c few =
    let x = c.args.document.now in
    let head = c.head_len-head.result in
    let source = c.new-reader.result.source in
    let (d, e, parts) = c.head_len-head.ensures.parts in
    let within = c.head_len-head.ensures.within in
    let place = c.saturating_add-2.ensures in
    let at = c.new-reader.ensures.at in
    let same = c.new-reader.ensures.rest ∙ c.split_at-2.ensures.back in
    let file : IsFile x =
    subst (λ (z : Option Fault). MatchOption z (IsFile x) (λ f. IsFileFault x f.cause f.offset)) c.in_default-first_fault.is c.first_fault.ensures in
    let left : IsLeft source.at source.rest.now =
    subst (λ (z : List ℕ). IsLeft source.at z) (sym same)
    (head_leaves c.declarations_are_read.ensures x d e head source.at file parts (omega (arith, at, place, few, length-drop head x, within))) in
    let (nodes, are) = c.files_have_nodes.ensures x c.args.start file in
    let row : AreNodes nodes source.scope source.at source.rest.now [] =
    rows_of c.declarations_are_read.ensures x d e c.args.start head source.at source.scope source.rest.now nodes parts
    (omega (arith, within)) (omega (arith, at, place, few, within)) c.new-reader.ensures.scope same are in
    let one = c.in_ok-read_document.ensures.subject nodes (c.new-reader.ensures.output refl) left (refl, refl) row in
    refused_at ⊤ _ _ _ (IsRefusedDocument x c.args.start) c.at-in-Some-other.ensures
    (inr (inr (file, nodes, are, several_subjects c.read_document.new.subject c.in-Some-other.place nodes c.in-Some-other.is one)))

pub returns-clause-layer : goal.returns-clause-layer
returns-clause-layer c few =
    let x = c.args.document.now in
    let file : IsFile x =
    subst (λ (z : Option Fault). MatchOption z (IsFile x) (λ f. IsFileFault x f.cause f.offset)) c.in_default-first_fault.is c.first_fault.ensures in
    let (nodes, are) = c.files_have_nodes.ensures x c.args.start file in
    rare_refused _ c.whole.result x c.args.start nodes file are c.whole.ensures.rare

pub returns-in_err-read_document-clause-asked : goal.returns-in_err-read_document-clause-asked
returns-in_err-read_document-clause-asked c none =
    let x = c.args.document.now in
    let file : IsFile x =
    subst (λ (z : Option Fault). MatchOption z (IsFile x) (λ f. IsFileFault x f.cause f.offset)) c.in_default-first_fault.is c.first_fault.ensures in
    absurd (none file)

pub returns-in-Some-other-clause-asked : goal.returns-in-Some-other-clause-asked
returns-in-Some-other-clause-asked c none =
    let x = c.args.document.now in
    let file : IsFile x =
    subst (λ (z : Option Fault). MatchOption z (IsFile x) (λ f. IsFileFault x f.cause f.offset)) c.in_default-first_fault.is c.first_fault.ensures in
    absurd (none file)

pub returns-clause-asked : goal.returns-clause-asked
returns-clause-asked c none =
    let x = c.args.document.now in
    let file : IsFile x =
    subst (λ (z : Option Fault). MatchOption z (IsFile x) (λ f. IsFileFault x f.cause f.offset)) c.in_default-first_fault.is c.first_fault.ensures in
    absurd (none file)
