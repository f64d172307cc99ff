use Rattle.std.proofs.Common.{◌≡◌, ◌⊎◌, ◌++◌, inl, inr, Bool, false, Option, option_map, List, [], ℕ, suc, refl, sym, ap, subst, ◌∙◌, arith}
use Rattle.std.specs.Prelude.{IfOk}
use Rattle.std.proofs.lemmas.Result.{on_ok_weaker}
use Rattle.px_xmp_forms.specs.Outputs.{begun, nothing, changed, with_text}
use Rattle.px_xmp_forms.specs.Labels.{label_view}
use Rattle.px_xmp_forms.specs.declared.labels.Content.{Content}
use Rattle.px_xmp_forms.specs.declared.labels.Content.TheVariants as content
use Rattle.px_xmp.specs.Tags.{Field, DeclaresLanguage, fields_in, inherited}
use Rattle.px_xmp.specs.declared.elements.Opened.{Opened}
use Rattle.px_xmp.specs.declared.elements.Filling.{Filling}
use Rattle.px_xmp.specs.calls.Opening.{node_view}
use Rattle.px_xmp.specs.declared.source.Source.{Source}
use Rattle.px_xmp.specs.calls.Steps.{IsLeft, TagAfter}
use Rattle.px_xmp.specs.calls.Contents.{content_of, with_entries, IsFilled, TextRead, ItemsRead, ContentRead}
use Rattle.px_xmp.proofs.ContentLaws.{items_next, items_end, value_done, content_parsed, content_uri, content_described, content_empty, content_text, content_node, node_done}
use Rattle.std.specs.Bool.{⊤}
use Rattle.std.specs.Prelude.{Err}
use Rattle.px_xmp_forms.specs.Causes.{FailsByMemory}
use Rattle.std.proofs.lemmas.Result.{err_from_is_err_and}
use Rattle.std.proofs.lemmas.Option.{same_Some}
use Rattle.px_xmp_text.specs.Values.{Structure, Compound}
use Rattle.px_xmp_forms.specs.Entries.{Inside, Entry}
use Rattle.px_xmp.specs.Meaning.{HasAttributes, AreEntries, IsRow, IsNode, IsLiteral, IsResource, compound_of}
use Rattle.px_xmp.specs.declared.elements.Node.TheVariants as node_kinds
use Rattle.px_xmp.specs.declared.elements.Node.{Node}
use Rattle.px_xmp.specs.declared.elements.Around.{Around}
use Rattle.px_xmp.specs.calls.Contents.{HasValue}
use Rattle.px_xmp.specs.calls.Fits.{IsAhead, FillingFits, EntryFits, LanguageFits, JoinFits, ContentFits, InsideFits}
use Rattle.px_xmp.proofs.RefusedLaws.{inside_once}
use Rattle.px_xmp.proofs.AheadLaws.{memory_says, none_some}
use Rattle.px_xmp.proofs.FitLaws.{row_fits, join_fits, fit_back, inside_fits, text_short, node_fits, content_fits, attributes_fit, has_can, has_inner, value_can_be, filling_fits, parsed_only, uri_only, described_only, bare_only}
use Rattle.px_xmp.proofs.MeaningLaws.{attributes_once, has_once}
use Rattle.px_xmp.proofs.ItemLaws.{ItemsAhead, entries_tag, node_element, node_ahead, node_kind, items_left, item_ahead, item_labelled, items_same, value_fits}
use Rattle.px_xmp.proofs.reader.Reader.+content.Goals as goal

pub read_items-returns-in_default-clause-read : goal.read_items-returns-in_default-clause-read
read_items-returns-in_default-clause-read t c s has left =
    let so = c.items.invariant.read s has left in
    let (white, is_white, tag) = c.in_ok-inner.ensures.read so.moves.left in
    subst (λ (b : Bool). ItemsRead b (node_view c.args.node) c.args.around.language.now c.args.around.depth c.args.self.now.source c.next_tag.new.self s c.items.self.output)
    (sym c.if-is_empty.false)
    (items_end (node_view c.args.node) c.args.around.language.now c.args.around.depth c.args.self.now.source c.items.self.source c.next_tag.new.self s c.items.self.output
    white so is_white (subst (λ (z : Option Opened). TagAfter z white c.items.self.source c.next_tag.new.self) c.in_default.is tag))

pub read_items-items-preserved : goal.read_items-items-preserved
read_items-items-preserved t c =
    record {
      within = omega (arith, c.in_ok-read_value.ensures.shorter, c.in_ok-inner.ensures.shorter, c.items.invariant.within);
      read = λ s has left.
          let so = c.items.invariant.read s has left in
          let (white, is_white, tag) = c.in_ok-inner.ensures.read so.moves.left in
          items_next (node_view c.args.node) c.args.around.language.now c.args.around.depth c.args.self.now.source c.items.self.source c.next_tag.new.self
          c.read_value.new.self.source s c.items.self.output c.read_value.new.self.output c.in-Some.inner white
          (label_view c.in-Some-item_label.label) so is_white
          (subst (λ (z : Option Opened). TagAfter z white c.items.self.source c.next_tag.new.self) c.in-Some.is tag) (sym c.in-Some-item_label.ensures)
          (λ u opened. c.in_ok-read_value.ensures.read (changed (with_entries so.entries) s) u so.has tag.moves.left opened);
      ahead = λ s y has ahead.
          let a = c.items.invariant.ahead s y has ahead in
          let so = c.items.invariant.read s has ahead.ahead.left in
          let (white, is_white, first) = c.in_ok-inner.ensures.read so.moves.left in
          let tag = subst (λ (z : Option Opened). TagAfter z white c.items.self.source c.next_tag.new.self) c.in-Some.is first in
          let (t, start) = tag.is in
          let v = c.in_ok-read_value.ensures.read (changed (with_entries so.entries) s) t so.has tag.moves.left start.opened in
          items_left c.kinds_are_read.ensures (node_view c.args.node) c.args.around.language.now c.args.around.depth c.in-Some.inner white t
          c.items.self.source c.next_tag.new.self y a is_white tag start v.nodes c.read_value.new.self.source v.inside v.scope;
      failed_allocations = c.in_ok-read_value.ensures.memory ∙ c.in_ok-inner.ensures.memory ∙ c.items.invariant.failed_allocations;
    }

pub read_content-returns-in-Any-clause-read : goal.read_content-returns-in-Any-clause-read
read_content-returns-in-Any-clause-read t c s u has left (name, language, all, listed, fields) =
    let fs = fields_in c.args.self.now.source.scope all in
    let (none, now) =
    subst (λ (z : Filling). IsFilled z fs c.args.around.language.now c.args.around.depth c.args.around.place (begun nothing s) c.read_filling.new.output) c.in-Any.is
    (c.in_ok-filling.ensures.value (begun nothing s) all has listed) in
    subst (λ (z : List Field). IfOk c.read_text_or_node.result (λ (r : Content). ContentRead r c.args.opened.is_empty z c.args.around
    c.args.self.now.source c.read_text_or_node.new.self.source s c.read_text_or_node.new.self.output)) (sym (sym fields ∙ none))
    (c.read_text_or_node.ensures.read s now left)

pub read_content-returns-in_ok-join_properties-in-Properties-clause-read :
    goal.read_content-returns-in_ok-join_properties-in-Properties-clause-read
read_content-returns-in_ok-join_properties-in-Properties-clause-read t c s u has left (name, language, all, listed, fields) =
    let fs = fields_in c.args.self.now.source.scope all in
    let filled =
    subst (λ (z : Filling). IsFilled z fs c.args.around.language.now c.args.around.depth c.args.around.place (begun nothing s) c.read_filling.new.output) c.in-Properties.is
    (c.in_ok-filling.ensures.value (begun nothing s) all has listed) in
    let (f, only, named, value, now) = filled in
    let r = c.in_ok-read_items-in-Properties.ensures.read (begun nothing s) now left in
    let (after, joined, joins) =
    c.in_ok-join_properties-in-Properties.ensures.value (begun (with_entries r.entries nothing) s) r.has in
    subst (λ (z : List Field). ContentRead content.Structure c.args.opened.is_empty z c.args.around c.args.self.now.source
    c.read_items.new.self.source s c.join_properties.new.self) fields
    (content_parsed c.args.opened.is_empty fs c.args.around c.args.self.now.source c.read_items.new.self.source s after c.read_filling.new.output
    c.read_items.new.self.output c.join_properties.new.self filled r joins joined)

pub read_content-returns-in_ok-read_nothing-in-Resource-clause-read : goal.read_content-returns-in_ok-read_nothing-in-Resource-clause-read
read_content-returns-in_ok-read_nothing-in-Resource-clause-read t c s u has left (name, language, all, listed, fields) =
    let fs = fields_in c.args.self.now.source.scope all in
    let filled =
    subst (λ (z : Filling). IsFilled z fs c.args.around.language.now c.args.around.depth c.args.around.place (begun nothing s) c.read_filling.new.output) c.in-Resource.is
    (c.in_ok-filling.ensures.value (begun nothing s) all has listed) in
    subst (λ (z : List Field). ContentRead content.Resource c.args.opened.is_empty z c.args.around c.args.self.now.source c.read_nothing.new.self s
    c.read_filling.new.output) fields
    (content_uri c.args.opened.is_empty fs c.args.around c.args.self.now.source c.read_nothing.new.self s c.read_filling.new.output filled
    (c.in_ok-read_nothing-in-Resource.ensures.read left))

pub read_content-returns-in_ok-join_properties-in-Attributes-clause-read :
    goal.read_content-returns-in_ok-join_properties-in-Attributes-clause-read
read_content-returns-in_ok-join_properties-in-Attributes-clause-read t c s u has left (name, language, all, listed, fields) =
    let fs = fields_in c.args.self.now.source.scope all in
    let (some, put) =
    subst (λ (z : Filling). IsFilled z fs c.args.around.language.now c.args.around.depth c.args.around.place (begun nothing s) c.read_filling.new.output) c.in-Attributes.is
    (c.in_ok-filling.ensures.value (begun nothing s) all has listed) in
    let (after, joined, joins) =
    c.in_ok-join_properties-in-Attributes.ensures.value (begun (with_entries put.entries nothing) s) put.has in
    subst (λ (z : List Field). ContentRead content.Structure c.args.opened.is_empty z c.args.around c.args.self.now.source
    c.read_nothing-in-Attributes.new.self s c.join_properties-in-Attributes.new.self) fields
    (content_described c.args.opened.is_empty fs c.args.around c.args.self.now.source c.read_nothing-in-Attributes.new.self s after
    c.read_filling.new.output c.join_properties-in-Attributes.new.self some put (c.in_ok-read_nothing-in-Attributes.ensures.read left) joins joined)

pub read_text_or_node-returns-then-is_empty-clause-read : goal.read_text_or_node-returns-then-is_empty-clause-read
read_text_or_node-returns-then-is_empty-clause-read t c s has left =
    subst (λ (b : Bool). ContentRead (content.Text c.args.around.language) b [] c.args.around c.args.self.now.source c.args.self.now.source s
    c.args.self.now.output) (sym c.if-is_empty.true) (content_empty c.args.around c.args.self.now.source s c.args.self.now.output left has)

pub read_text_or_node-returns-in_default-clause-read : goal.read_text_or_node-returns-in_default-clause-read
read_text_or_node-returns-in_default-clause-read t c s has left =
    subst (λ (b : Bool). ContentRead (content.Text c.args.around.language) b [] c.args.around c.args.self.now.source c.read_text.new.self.source s
    c.read_text.new.self.output) (sym c.if-is_empty.false)
    (content_text c.args.around c.args.self.now.source c.read_text.new.self.source s c.read_text.new.self.output
    (subst (λ (z : Option Opened). TextRead z s c.args.self.now.source c.read_text.new.self.source c.read_text.new.self.output) c.in_default.is
    (c.in_ok-inner.ensures.read s has left)))

pub read_text_or_node-returns-clause-read : goal.read_text_or_node-returns-clause-read
read_text_or_node-returns-clause-read t c s has left =
    let r =
    subst (λ (z : Option Opened). TextRead z s c.args.self.now.source c.read_text.new.self.source c.read_text.new.self.output) c.in-Some.is
    (c.in_ok-inner.ensures.read s has left) in
    let now = c.in_ok-remove_text.ensures.value (begun (with_text r.text nothing) s) r.has in
    let (u, start) = r.after.is in
    let n = c.in_ok-node.ensures.read s u now r.after.moves.left start.opened in
    subst (λ (q : Content). ContentRead q c.args.is_empty [] c.args.around c.args.self.now.source c.read_end.new.self s
    c.read_node.new.self.output) (sym c.content.ensures)
    (subst (λ (b : Bool). ContentRead (content_of c.in_ok-node.node) b [] c.args.around c.args.self.now.source c.read_end.new.self s
    c.read_node.new.self.output) (sym c.if-is_empty.false)
    (content_node c.in_ok-node.node c.in-Some.inner c.args.around c.args.self.now.source c.read_text.new.self.source c.read_node.new.self.source
    c.read_end.new.self s c.read_text.new.self.output c.read_node.new.self.output r
    (λ v opened. c.in_ok-node.ensures.read s v now r.after.moves.left opened) (c.in_ok-read_end.ensures.read n.inside.moves.left)))

pub read_node-returns-clause-read : goal.read_node-returns-clause-read
read_node-returns-clause-read t c s u has left opened =
    let source = c.in_ok-around.ensures.source in
    let on = subst (λ (q : Source). IsLeft q.at q.rest.now) (sym source) left in
    node_done c.in-Some.node c.args.opened u c.args.outer.language.now c.args.outer.depth c.in_ok-around.around c.args.self.now.source c.begin_node.new.self.source
    c.read_items.new.self.source
    (record { rest = c.read_items.new.self.source.rest; at = c.read_items.new.self.source.at; scope = c.close.new.self }) s
    c.begin_node.new.self.output c.read_items.new.self.output c.end_node.new.output (sym c.in-Some.ensures) opened.0 source
    (c.in_ok-around.ensures.value (begun nothing s) u has opened) (λ st h. c.in_ok-read_items.ensures.read st h on) refl refl c.close.ensures
    (λ st h. c.in_ok-end_node.ensures.value st h)

pub read_value-returns-clause-read : goal.read_value-returns-clause-read
read_value-returns-clause-read t c s u has left opened =
    let r = c.in_ok-content.ensures.read s u (c.in_ok-begin.ensures.value s has) left opened in
    on_ok_weaker c.end_element.result (λ ended.
    value_done c.in_ok-content.content c.args.opened u (label_view c.args.label) c.args.outer.language.now c.args.outer.depth c.in-Some-deeper.around c.args.self.now.source
    c.read_content.new.self.source
    (record { rest = c.read_content.new.self.source.rest; at = c.read_content.new.self.source.at; scope = c.close.new.self }) s
    c.read_content.new.self.output c.end_element.new.self
    (subst DeclaresLanguage opened.1 c.in-Some.ensures.declares)
    (c.in-Some-deeper.ensures.language ∙ c.in-Some.ensures.language
    ∙ ap (λ (z : Option (List ℕ)). inherited c.args.outer.language.now z) opened.1)
    (c.in-Some-deeper.ensures.place ∙ c.in-Some.ensures.place) (c.in-Some-deeper.ensures.depth ∙ ap suc c.in-Some.ensures.depth)
    c.in-Some-deeper.ensures.within r refl refl c.close.ensures ended)
    (c.end_element.ensures.value (begun r.element s) r.has)

-- ---- what is surely read

pub read_items-returns-in_err-inner-clause-accepts : goal.read_items-returns-in_err-inner-clause-accepts
read_items-returns-in_err-inner-clause-accepts t c s nodes es y has ahead are fit =
    let first : ItemsAhead (node_view c.args.node) c.args.around.language.now c.args.around.depth c.args.self.now.source y = record {
      nodes = nodes;
      entries = es;
      ahead = subst (λ (b : Bool). IsAhead b nodes c.args.self.now.source y) c.if-is_empty.false ahead;
      are = are;
      fit = fit;
    } in
    let a = c.items.invariant.ahead s y has first in
    let p = err_from_is_err_and c.from_residual.result c.from_residual.ensures.1 in
    rw (p.1, p.2) (memory_says (Option Opened) ⊤ c.in_err-inner.field-0.0
    (c.in_err-inner.ensures.accepts a.nodes (a.ahead.row.0 ++ y) a.ahead.left a.ahead.row.1
    (entries_tag (node_view c.args.node) c.args.around.language.now a.nodes a.entries a.ahead.row.0 y a.are a.ahead.row.2)))

pub read_items-returns-in_default-item_label-clause-accepts : goal.read_items-returns-in_default-item_label-clause-accepts
read_items-returns-in_default-item_label-clause-accepts t c s nodes es y has ahead are fit =
    let first : ItemsAhead (node_view c.args.node) c.args.around.language.now c.args.around.depth c.args.self.now.source y = record {
      nodes = nodes;
      entries = es;
      ahead = subst (λ (b : Bool). IsAhead b nodes c.args.self.now.source y) c.if-is_empty.false ahead;
      are = are;
      fit = fit;
    } in
    let a = c.items.invariant.ahead s y has first in
    let so = c.items.invariant.read s has ahead.left in
    let (white, is_white, found) = c.in_ok-inner.ensures.read so.moves.left in
    let tag = subst (λ (z : Option Opened). TagAfter z white c.items.self.source c.next_tag.new.self) c.in-Some.is found in
    let (u, start) = tag.is in
    absurd (item_labelled c.kinds_are_read.ensures (node_view c.args.node) c.args.around.language.now c.args.around.depth c.in-Some.inner white u
    c.items.self.source c.next_tag.new.self y a is_white tag start
    (sym c.item_label.ensures ∙ ap (option_map label_view) c.in_default-item_label.is))

pub read_items-returns-in_err-read_value-clause-accepts : goal.read_items-returns-in_err-read_value-clause-accepts
read_items-returns-in_err-read_value-clause-accepts t c s nodes es y has ahead are fit =
    let first : ItemsAhead (node_view c.args.node) c.args.around.language.now c.args.around.depth c.args.self.now.source y = record {
      nodes = nodes;
      entries = es;
      ahead = subst (λ (b : Bool). IsAhead b nodes c.args.self.now.source y) c.if-is_empty.false ahead;
      are = are;
      fit = fit;
    } in
    let a = c.items.invariant.ahead s y has first in
    let so = c.items.invariant.read s has ahead.left in
    let (white, is_white, found) = c.in_ok-inner.ensures.read so.moves.left in
    let tag = subst (λ (z : Option Opened). TagAfter z white c.items.self.source c.next_tag.new.self) c.in-Some.is found in
    let (u, start) = tag.is in
    let i = item_ahead c.kinds_are_read.ensures (node_view c.args.node) c.args.around.language.now c.args.around.depth c.in-Some.inner white u
    c.items.self.source c.next_tag.new.self y a is_white tag start (label_view c.in-Some-item_label.label) tag.moves.left (sym c.in-Some-item_label.ensures) in
    let p = err_from_is_err_and c.from_residual-in_err-read_value.result c.from_residual-in_err-read_value.ensures.1 in
    rw (p.1, p.2) (memory_says ⊤ ⊤ c.in_err-read_value.field-0.0
    (c.in_err-read_value.ensures.accepts (changed (with_entries so.entries) s) u i.nodes i.value i.tail so.has start.opened i.ahead i.tag i.is i.fits))

pub read_value-returns-in_default-clause-accepts : goal.read_value-returns-in_default-clause-accepts
read_value-returns-in_default-clause-accepts t c s u nodes v y has opened ahead tag is fits =
    absurd (none_some c.inside.result c.in_default.is (c.inside.ensures.accepts (subst LanguageFits (sym opened.1) (is.0, tag.0))))

pub read_value-returns-in_err-begin-clause-accepts : goal.read_value-returns-in_err-begin-clause-accepts
read_value-returns-in_err-begin-clause-accepts t c s u nodes v y has opened ahead tag is fits =
    let p = err_from_is_err_and c.from_residual.result c.from_residual.ensures.1 in
    rw (p.1, p.2) (memory_says ⊤ ⊤ c.in_err-begin.field-0.0 (c.in_err-begin.ensures.accepts))

pub read_value-returns-in_err-content-clause-accepts : goal.read_value-returns-in_err-content-clause-accepts
read_value-returns-in_err-content-clause-accepts t c s u nodes v y has opened ahead tag is fits =
    let a = c.in-Some-deeper.around in
    let language = c.in-Some-deeper.ensures.language ∙ c.in-Some.ensures.language
    ∙ ap (λ (z : Option (List ℕ)). inherited c.args.outer.language.now z) opened.1 in
    let place = c.in-Some-deeper.ensures.place ∙ c.in-Some.ensures.place in
    let value = subst (λ (q : ℕ). HasValue a.language.now q u.fields nodes v) (sym place)
    (subst (λ (q : List ℕ). HasValue q c.args.opened.place u.fields nodes v) (sym language) is.1) in
    let p = err_from_is_err_and c.from_residual-in_err-content.result c.from_residual-in_err-content.ensures.1 in
    rw (p.1, p.2) (memory_says Content ⊤ c.in_err-content.field-0.0
    (c.in_err-content.ensures.accepts s u nodes c.args.outer.depth (label_view c.args.label) v y (c.in_ok-begin.ensures.value s has) opened ahead tag value
    (c.in-Some-deeper.ensures.depth ∙ ap suc c.in-Some.ensures.depth) fits))

pub read_value-returns-clause-accepts : goal.read_value-returns-clause-accepts
read_value-returns-clause-accepts t c s u nodes v y has opened ahead tag is fits =
    let a = c.in-Some-deeper.around in
    let old = c.args.self.now.source in
    let language = c.in-Some-deeper.ensures.language ∙ c.in-Some.ensures.language
    ∙ ap (λ (z : Option (List ℕ)). inherited c.args.outer.language.now z) opened.1 in
    let place = c.in-Some-deeper.ensures.place ∙ c.in-Some.ensures.place in
    let value = subst (λ (q : ℕ). HasValue a.language.now q u.fields nodes v) (sym place)
    (subst (λ (q : List ℕ). HasValue q c.args.opened.place u.fields nodes v) (sym language) is.1) in
    let r = c.in_ok-content.ensures.read s u (c.in_ok-begin.ensures.value s has) ahead.left opened in
    let (same, tail) =
    inside_once c.kinds_are_read.ensures c.args.opened.is_empty r.nodes nodes old.scope old.at old.rest.now c.read_content.new.self.source.rest.now y
    r.inside.row ahead.row in
    c.end_element.ensures.accepts (begun r.element s) r.element s.opened r.has refl
    (value_fits c.packet_is_injective.ensures a.language.now a.place u.fields nodes r.nodes c.args.outer.depth (label_view c.args.label) v _ same value r.is fits
    (value_can_be c.in_ok-content.content r.element.text r.element.inner (has_inner c.read_content.new.self.output s r.element r.has)))

pub read_content-returns-in_err-filling-clause-accepts : goal.read_content-returns-in_err-filling-clause-accepts
read_content-returns-in_err-filling-clause-accepts t c s u nodes depth l v y has (name, language, all, listed, fields) ahead tag is deeper fits =
    let room = filling_fits depth l c.args.around.language.now c.args.around.place u.fields nodes v fits tag.1 is in
    let p = err_from_is_err_and c.from_residual.result c.from_residual.ensures.1 in
    rw (p.1, p.2) (memory_says Filling Content c.in_err-filling.field-0.0
    (c.in_err-filling.ensures.accepts all listed
    (subst (λ (z : ℕ). FillingFits c.args.around.language.now c.args.around.place z (fields_in c.args.self.now.source.scope all)) (sym deeper)
    (subst (FillingFits c.args.around.language.now c.args.around.place (suc depth)) (sym fields) room))))

pub read_content-returns-in-Any-clause-accepts : goal.read_content-returns-in-Any-clause-accepts
read_content-returns-in-Any-clause-accepts t c s u nodes depth l v y has (name, language, all, listed, fields) ahead tag is deeper fits =
    let (none, now) =
    subst (λ (z : Filling). IsFilled z (fields_in c.args.self.now.source.scope all) c.args.around.language.now c.args.around.depth c.args.around.place (begun nothing s) c.read_filling.new.output) c.in-Any.is
    (c.in_ok-filling.ensures.value (begun nothing s) all has listed) in
    c.read_text_or_node.ensures.accepts s nodes depth l v y now ahead
    (subst (λ (z : List Field). HasValue c.args.around.language.now c.args.around.place z nodes v) (sym fields ∙ none) is) deeper fits

pub read_content-returns-in_err-read_items-in-Properties-clause-accepts : goal.read_content-returns-in_err-read_items-in-Properties-clause-accepts
read_content-returns-in_err-read_items-in-Properties-clause-accepts t c s u nodes depth l v y has (name, language, all, listed, fields) ahead tag is deeper fits =
    let (f, only, named, value, now) =
    subst (λ (z : Filling). IsFilled z (fields_in c.args.self.now.source.scope all) c.args.around.language.now c.args.around.depth c.args.around.place (begun nothing s) c.read_filling.new.output) c.in-Properties.is
    (c.in_ok-filling.ensures.value (begun nothing s) all has listed) in
    let one = sym fields ∙ only in
    let (g, other, called, all_resource, es, inner, are, row, same) = parsed_only c.args.around.language.now c.args.around.place u.fields nodes v f one named is in
    let room = subst (λ (z : ℕ). ContentFits z inner) (sym deeper) (inside_fits depth l Structure inner (subst (EntryFits depth l) same fits)) in
    let p = err_from_is_err_and c.from_residual-in_err-read_items-in-Properties.result c.from_residual-in_err-read_items-in-Properties.ensures.1 in
    rw (p.1, p.2) (memory_says ⊤ Content c.in_err-read_items-in-Properties.field-0.0
    (c.in_err-read_items-in-Properties.ensures.accepts (begun nothing s) nodes es y now ahead are
    (row_fits Structure c.args.around.depth es inner row room).0))

pub read_content-returns-in_err-join_properties-in-Properties-clause-accepts : goal.read_content-returns-in_err-join_properties-in-Properties-clause-accepts
read_content-returns-in_err-join_properties-in-Properties-clause-accepts t c s u nodes depth l v y has (name, language, all, listed, fields) ahead tag is deeper fits =
    let (f, only, named, value, now) =
    subst (λ (z : Filling). IsFilled z (fields_in c.args.self.now.source.scope all) c.args.around.language.now c.args.around.depth c.args.around.place (begun nothing s) c.read_filling.new.output) c.in-Properties.is
    (c.in_ok-filling.ensures.value (begun nothing s) all has listed) in
    let one = sym fields ∙ only in
    let (g, other, called, all_resource, es, inner, are, row, same) = parsed_only c.args.around.language.now c.args.around.place u.fields nodes v f one named is in
    let room = subst (λ (z : ℕ). ContentFits z inner) (sym deeper) (inside_fits depth l Structure inner (subst (EntryFits depth l) same fits)) in
    let r = c.in_ok-read_items-in-Properties.ensures.read (begun nothing s) now ahead.left in
    let entries : r.entries ≡ es =
    items_same c.kinds_are_read.ensures c.packet_is_injective.ensures c.args.opened.is_empty Structure c.args.around.language.now c.args.around.depth
    c.args.around.depth c.args.self.now.source c.read_items.new.self.source (begun nothing s) c.read_items.new.self.output nodes es y ahead are
    (row_fits Structure c.args.around.depth es inner row room).0 r (has_can c.read_items.new.self.output s r.entries nothing r.has) in
    let join = subst (λ (z : List Entry). JoinFits node_kinds.Description z) (sym entries) (join_fits node_kinds.Description c.args.around.depth es inner row room) in
    let p = err_from_is_err_and c.from_residual-in_err-join_properties-in-Properties.result c.from_residual-in_err-join_properties-in-Properties.ensures.1 in
    rw (p.1, p.2) (memory_says ⊤ Content c.in_err-join_properties-in-Properties.field-0.0
    (c.in_err-join_properties-in-Properties.ensures.accepts (begun (with_entries r.entries nothing) s) r.has join.0 join.1))

pub read_content-returns-in_err-read_nothing-in-Resource-clause-accepts : goal.read_content-returns-in_err-read_nothing-in-Resource-clause-accepts
read_content-returns-in_err-read_nothing-in-Resource-clause-accepts t c s u nodes depth l v y has (name, language, all, listed, fields) ahead tag is deeper fits =
    let (f, only, named, absolute, w, says, now) =
    subst (λ (z : Filling). IsFilled z (fields_in c.args.self.now.source.scope all) c.args.around.language.now c.args.around.depth c.args.around.place (begun nothing s) c.read_filling.new.output) c.in-Resource.is
    (c.in_ok-filling.ensures.value (begun nothing s) all has listed) in
    let one = sym fields ∙ only in
    let (g, other, called, whole, white, word, text, same) = uri_only c.args.around.language.now c.args.around.place u.fields nodes v f one named is in
    let p = err_from_is_err_and c.from_residual-in_err-read_nothing-in-Resource.result c.from_residual-in_err-read_nothing-in-Resource.ensures.1 in
    rw (p.1, p.2) (memory_says ⊤ Content c.in_err-read_nothing-in-Resource.field-0.0
    (c.in_err-read_nothing-in-Resource.ensures.accepts nodes y ahead.left white ahead.row))

pub read_content-returns-in_err-read_nothing-in-Attributes-clause-accepts : goal.read_content-returns-in_err-read_nothing-in-Attributes-clause-accepts
read_content-returns-in_err-read_nothing-in-Attributes-clause-accepts t c s u nodes depth l v y has (name, language, all, listed, fields) ahead tag is deeper fits =
    let (some, put) =
    subst (λ (z : Filling). IsFilled z (fields_in c.args.self.now.source.scope all) c.args.around.language.now c.args.around.depth c.args.around.place (begun nothing s) c.read_filling.new.output) c.in-Attributes.is
    (c.in_ok-filling.ensures.value (begun nothing s) all has listed) in
    let gs = fields_in c.args.self.now.source.scope all in
    let (others, white, es, inner, are, row, same) =
    described_only c.args.around.language.now c.args.around.place gs nodes v put.entries some put.are
    (subst (λ (z : List Field). HasValue c.args.around.language.now c.args.around.place z nodes v) (sym fields) is) in
    let p = err_from_is_err_and c.from_residual-in_err-read_nothing-in-Attributes.result c.from_residual-in_err-read_nothing-in-Attributes.ensures.1 in
    rw (p.1, p.2) (memory_says ⊤ Content c.in_err-read_nothing-in-Attributes.field-0.0
    (c.in_err-read_nothing-in-Attributes.ensures.accepts nodes y ahead.left white ahead.row))

pub read_content-returns-in_err-join_properties-in-Attributes-clause-accepts : goal.read_content-returns-in_err-join_properties-in-Attributes-clause-accepts
read_content-returns-in_err-join_properties-in-Attributes-clause-accepts t c s u nodes depth l v y has (name, language, all, listed, fields) ahead tag is deeper fits =
    let (some, put) =
    subst (λ (z : Filling). IsFilled z (fields_in c.args.self.now.source.scope all) c.args.around.language.now c.args.around.depth c.args.around.place (begun nothing s) c.read_filling.new.output) c.in-Attributes.is
    (c.in_ok-filling.ensures.value (begun nothing s) all has listed) in
    let gs = fields_in c.args.self.now.source.scope all in
    let (others, white, es, inner, are, row, same) =
    described_only c.args.around.language.now c.args.around.place gs nodes v put.entries some put.are
    (subst (λ (z : List Field). HasValue c.args.around.language.now c.args.around.place z nodes v) (sym fields) is) in
    let entries : put.entries ≡ es = attributes_once c.args.around.language.now c.args.around.place gs put.entries es put.are are in
    let room = subst (λ (z : ℕ). ContentFits z inner) (sym deeper) (inside_fits depth l Structure inner (subst (EntryFits depth l) same fits)) in
    let join = subst (λ (z : List Entry). JoinFits node_kinds.Description z) (sym entries) (join_fits node_kinds.Description c.args.around.depth es inner row room) in
    let p = err_from_is_err_and c.from_residual-in_err-join_properties-in-Attributes.result c.from_residual-in_err-join_properties-in-Attributes.ensures.1 in
    rw (p.1, p.2) (memory_says ⊤ Content c.in_err-join_properties-in-Attributes.field-0.0
    (c.in_err-join_properties-in-Attributes.ensures.accepts (begun (with_entries put.entries nothing) s) put.has join.0 join.1))

pub read_text_or_node-returns-in_err-inner-clause-accepts : goal.read_text_or_node-returns-in_err-inner-clause-accepts
read_text_or_node-returns-in_err-inner-clause-accepts t c s nodes depth l v y has ahead is deeper fits =
    let p = err_from_is_err_and c.from_residual.result c.from_residual.ensures.1 in
    rw (p.1, p.2) (memory_says (Option Opened) Content c.in_err-inner.field-0.0 (by (bare_only c.args.around.language.now c.args.around.place nodes v is)))
  where
    whole : IsAhead false nodes c.args.self.now.source y
    whole = subst (λ (b : Bool). IsAhead b nodes c.args.self.now.source y) c.if-is_empty.false ahead

    by : IsLiteral c.args.around.language.now [] nodes v ⊎ IsResource [] (IsNode c.args.around.language.now nodes) v
        → FailsByMemory {X = Option Opened} (Err c.in_err-inner.field-0.0)
    by (inl (none, word, words, same)) =
        c.in_err-inner.ensures.text s nodes word y has whole words
        (omega (arith, text_short depth l _ word (subst (EntryFits depth l) same fits)))
    by (inr (none, k, inner, node, same)) =
        c.in_err-inner.ensures.node s nodes y has whole (node_element c.args.around.language.now nodes k inner node)

pub read_text_or_node-returns-in_err-remove_text-clause-accepts : goal.read_text_or_node-returns-in_err-remove_text-clause-accepts
read_text_or_node-returns-in_err-remove_text-clause-accepts t c s nodes depth l v y has ahead is deeper fits =
    let p = err_from_is_err_and c.from_residual-in_err-remove_text.result c.from_residual-in_err-remove_text.ensures.1 in
    rw (p.1, p.2) (memory_says ⊤ Content c.in_err-remove_text.field-0.0 (c.in_err-remove_text.ensures.accepts))

pub read_text_or_node-returns-in_err-node-clause-accepts : goal.read_text_or_node-returns-in_err-node-clause-accepts
read_text_or_node-returns-in_err-node-clause-accepts t c s nodes depth l v y has ahead is deeper fits =
    let r =
    subst (λ (z : Option Opened). TextRead z s c.args.self.now.source c.read_text.new.self.source c.read_text.new.self.output) c.in-Some.is
    (c.in_ok-inner.ensures.read s has ahead.left) in
    let now = c.in_ok-remove_text.ensures.value (begun (with_text r.text nothing) s) r.has in
    let (u, start) = r.after.is in
    let whole : IsAhead false nodes c.args.self.now.source y = subst (λ (b : Bool). IsAhead b nodes c.args.self.now.source y) c.if-is_empty.false ahead in
    let (k, inner, node, same) =
    node_kind c.kinds_are_read.ensures c.args.around.language.now c.args.around.place c.in-Some.inner r.nodes nodes v c.args.self.now.source
    c.read_text.new.self.source y whole (r.white refl) r.after is in
    let a = node_ahead c.kinds_are_read.ensures c.args.around.language.now c.in-Some.inner r.nodes u nodes c.args.self.now.source c.read_text.new.self.source y
    whole (r.white refl) r.after start k inner node in
    let p = err_from_is_err_and c.from_residual-in_err-node.result c.from_residual-in_err-node.ensures.1 in
    rw (p.1, p.2) (memory_says Node Content c.in_err-node.field-0.0
    (c.in_err-node.ensures.accepts s u a.nodes k inner a.tail now start.opened a.ahead a.tag a.is
    (subst (λ (z : ℕ). InsideFits z k inner) (sym deeper) (inside_fits depth l k inner (subst (EntryFits depth l) {y = Inside k inner} same fits)))))

pub read_text_or_node-returns-in_err-read_end-clause-accepts : goal.read_text_or_node-returns-in_err-read_end-clause-accepts
read_text_or_node-returns-in_err-read_end-clause-accepts t c s nodes depth l v y has ahead is deeper fits =
    let r =
    subst (λ (z : Option Opened). TextRead z s c.args.self.now.source c.read_text.new.self.source c.read_text.new.self.output) c.in-Some.is
    (c.in_ok-inner.ensures.read s has ahead.left) in
    let now = c.in_ok-remove_text.ensures.value (begun (with_text r.text nothing) s) r.has in
    let (u, start) = r.after.is in
    let whole : IsAhead false nodes c.args.self.now.source y = subst (λ (b : Bool). IsAhead b nodes c.args.self.now.source y) c.if-is_empty.false ahead in
    let (k, inner, node, same) =
    node_kind c.kinds_are_read.ensures c.args.around.language.now c.args.around.place c.in-Some.inner r.nodes nodes v c.args.self.now.source
    c.read_text.new.self.source y whole (r.white refl) r.after is in
    let a = node_ahead c.kinds_are_read.ensures c.args.around.language.now c.in-Some.inner r.nodes u nodes c.args.self.now.source c.read_text.new.self.source y
    whole (r.white refl) r.after start k inner node in
    let n = c.in_ok-node.ensures.read s u now r.after.moves.left start.opened in
    let p = err_from_is_err_and c.from_residual-in_err-read_end.result c.from_residual-in_err-read_end.ensures.1 in
    rw (p.1, p.2) (memory_says ⊤ Content c.in_err-read_end.field-0.0
    (c.in_err-read_end.ensures.accepts a.more y n.inside.moves.left a.white (a.last n.nodes c.read_node.new.self.source n.inside n.scope)))

pub read_node-returns-in_err-around-clause-accepts : goal.read_node-returns-in_err-around-clause-accepts
read_node-returns-in_err-around-clause-accepts t c s u nodes k inner y has opened ahead tag (declares, kind, white, fs, es, attributes, are, row) fits =
    let same : k ≡ node_view c.in-Some.node = same_Some k (node_view c.in-Some.node) (sym kind ∙ ap compound_of (sym opened.0) ∙ sym c.in-Some.ensures) in
    let node = c.in-Some.node in
    let room : InsideFits c.args.outer.depth (node_view node) inner = subst (λ (z : Compound). InsideFits c.args.outer.depth z inner) same fits in
    let has_fields = subst (λ (z : Compound). HasAttributes z (inherited c.args.outer.language.now u.language) c.args.opened.place u.fields fs) same attributes in
    let p = err_from_is_err_and c.from_residual.result c.from_residual.ensures.1 in
    rw (p.1, p.2) (memory_says Around Node c.in_err-around.field-0.0
    (c.in_err-around.ensures.accepts u fs opened declares tag has_fields
    (attributes_fit node c.args.outer.depth (inherited c.args.outer.language.now u.language) c.args.opened.place u.fields fs es inner has_fields
    (subst (λ (z : Compound). IsRow z (fs ++ es) inner) same row) room)
    (node_fits node c.args.outer.depth inner room)))

pub read_node-returns-in_err-read_items-clause-accepts : goal.read_node-returns-in_err-read_items-clause-accepts
read_node-returns-in_err-read_items-clause-accepts t c s u nodes k inner y has opened ahead tag (declares, kind, white, fs, es, attributes, are, row) fits =
    let a = c.in_ok-around.around in
    let same : k ≡ node_view c.in-Some.node = same_Some k (node_view c.in-Some.node) (sym kind ∙ ap compound_of (sym opened.0) ∙ sym c.in-Some.ensures) in
    let b = c.in_ok-around.ensures.value (begun nothing s) u has opened in
    let rows : IsRow (node_view c.in-Some.node) (fs ++ es) inner = subst (λ (z : Compound). IsRow z (fs ++ es) inner) same row in
    let room = content_fits c.in-Some.node c.args.outer.depth a.depth inner b.inner (subst (λ (z : Compound). InsideFits c.args.outer.depth z inner) same fits) in
    let p = err_from_is_err_and c.from_residual-in_err-read_items.result c.from_residual-in_err-read_items.ensures.1 in
    rw (p.1, p.2) (memory_says ⊤ Node c.in_err-read_items.field-0.0
    (c.in_err-read_items.ensures.accepts (begun (with_entries b.entries nothing) (begun nothing s)) nodes es y b.has
    (subst (λ (q : Source). IsAhead c.args.opened.is_empty nodes q y) (sym c.in_ok-around.ensures.source) ahead)
    (subst (λ (z : Compound). AreEntries z a.language.now nodes es) same (subst (λ (q : List ℕ). AreEntries k q nodes es) (sym b.language) are))
    (fit_back a.depth fs es (row_fits (node_view c.in-Some.node) a.depth (fs ++ es) inner rows room).0)))

pub read_node-returns-in_err-end_node-clause-accepts : goal.read_node-returns-in_err-end_node-clause-accepts
read_node-returns-in_err-end_node-clause-accepts t c s u nodes k inner y has opened ahead tag (declares, kind, white, fs, es, attributes, are, row) fits =
    let a = c.in_ok-around.around in
    let node = c.in-Some.node in
    let same : k ≡ node_view node = same_Some k (node_view node) (sym kind ∙ ap compound_of (sym opened.0) ∙ sym c.in-Some.ensures) in
    let b = c.in_ok-around.ensures.value (begun nothing s) u has opened in
    let rows : IsRow (node_view node) (fs ++ es) inner = subst (λ (z : Compound). IsRow z (fs ++ es) inner) same row in
    let room = content_fits node c.args.outer.depth a.depth inner b.inner (subst (λ (z : Compound). InsideFits c.args.outer.depth z inner) same fits) in
    let on = subst (λ (q : Source). IsAhead c.args.opened.is_empty nodes q y) (sym c.in_ok-around.ensures.source) ahead in
    let r = c.in_ok-read_items.ensures.read (begun (with_entries b.entries nothing) (begun nothing s)) b.has on.left in
    let entries : r.entries ≡ es =
    items_same c.kinds_are_read.ensures c.packet_is_injective.ensures c.args.opened.is_empty (node_view node) a.language.now a.depth a.depth
    c.begin_node.new.self.source c.read_items.new.self.source (begun (with_entries b.entries nothing) (begun nothing s)) c.read_items.new.self.output nodes es y on
    (subst (λ (z : Compound). AreEntries z a.language.now nodes es) same (subst (λ (q : List ℕ). AreEntries k q nodes es) (sym b.language) are))
    (fit_back a.depth fs es (row_fits (node_view node) a.depth (fs ++ es) inner rows room).0) r
    (has_can c.read_items.new.self.output (begun nothing s) r.entries (with_entries b.entries nothing) r.has) in
    let fields : b.entries ≡ fs =
    has_once (node_view node) (inherited c.args.outer.language.now u.language) c.args.opened.place u.fields b.entries fs b.are
    (subst (λ (z : Compound). HasAttributes z (inherited c.args.outer.language.now u.language) c.args.opened.place u.fields fs) same attributes) in
    let all : b.entries ++ r.entries ≡ fs ++ es = ap (λ (z : List Entry). z ++ r.entries) fields ∙ ap (λ (z : List Entry). fs ++ z) entries in
    let p = err_from_is_err_and c.from_residual-in_err-end_node.result c.from_residual-in_err-end_node.ensures.1 in
    rw (p.1, p.2) (memory_says ⊤ Node c.in_err-end_node.field-0.0
    (c.in_err-end_node.ensures.accepts (begun (with_entries r.entries (with_entries b.entries nothing)) (begun nothing s)) r.has
    (subst (JoinFits node) {y = b.entries ++ r.entries} (sym {a = b.entries ++ r.entries} all) (join_fits node a.depth (fs ++ es) inner rows room))))
