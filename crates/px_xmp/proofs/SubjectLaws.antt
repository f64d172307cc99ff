-- What is left of rdf:RDF and of the root is read.
use Rattle.std.proofs.Common.{◌≡◌, ◌++◌, ◌∙◌, inr, refl, ℕ, Bool, false, Option, Some, option_map, List, sym, ap, subst, append_assoc}
use Rattle.px_xmp_text.specs.Values.{PacketIsInjective}
use Rattle.px_xmp_document.specs.Scopes.{ended}
use Rattle.px_xmp_forms.specs.Entries.{Entry}
use Rattle.px_xmp_forms.specs.Outputs.{State}
use Rattle.px_xmp_forms.specs.declared.output.Output.{Output}
use Rattle.px_xmp.specs.Marks.{End, IsKind}
use Rattle.px_xmp.specs.Tags.{Tag}
use Rattle.px_xmp.specs.Nodes.{Nodes, Nothing, Words, Element}
use Rattle.px_xmp.specs.Meaning.{AreWhite, AreSubjects, IsAlone}
use Rattle.px_xmp.specs.Laws.{KindsAreRead}
use Rattle.px_xmp.specs.declared.elements.Opened.{Opened}
use Rattle.px_xmp.specs.declared.source.Source.{Source}
use Rattle.px_xmp.specs.declared.subject.Subject.{Subject}
use Rattle.px_xmp.specs.calls.Steps.{IsLeft, IsStart, TagAfter, InsideRead}
use Rattle.px_xmp.specs.calls.Roots.{IsNew, SubjectsRead}
use Rattle.px_xmp.specs.calls.Fits.{TagFits, HasTag, IsAhead, IsSubjectNode, SubjectFits, AreFit}
use Rattle.px_xmp.proofs.StepLaws.{joined}
use Rattle.px_xmp.proofs.MeaningLaws.{CanAll, subjects_once}
use Rattle.px_xmp.proofs.RefusedLaws.{inside_once, row_after}
use Rattle.px_xmp.proofs.RootLaws.{no_subject, are_all_about}
use Rattle.px_xmp.proofs.AheadLaws.{AtElement, element_entered, inside_ahead}
use Rattle.px_xmp.proofs.FitLaws.{fit_can, fit_front, fit_back}

-- ---- a tag follows white space

pub subjects_tag : (u : Option (List ℕ)) (l : List ℕ) (nodes : Nodes) (es : List Entry) (e y : List ℕ) → AreSubjects u l nodes es → IsKind End e y
    → HasTag nodes (e ++ y)
subjects_tag u l Nothing es e y h ends = (y, (e, ends, refl))
subjects_tag u l (Words t more) es e y (white, h) ends = (white, subjects_tag u l more es e y h ends)
subjects_tag u l (Element tag place inner more) es e y h ends = tt

pub alone_tag : (P : Tag → Nodes → Type 0) (nodes : Nodes) (y : List ℕ) → IsAlone P nodes → HasTag nodes y
alone_tag P Nothing y h = absurd h
alone_tag P (Words t more) y (white, h) = (white, alone_tag P more y h)
alone_tag P (Element tag place inner more) y h = tt

-- ---- subjects, one after another

subjects_front : (u : Option (List ℕ)) (l : List ℕ) (a b : Nodes) (es : List Entry) → AreWhite a → AreSubjects u l (joined a b) es → AreSubjects u l b es
subjects_front u l Nothing b es w h = h
subjects_front u l (Words t more) b es (f, w) (e, h) = subjects_front u l more b es w h
subjects_front u l (Element tag place inner more) b es w h = absurd w

pub record SubjectsAhead (l : List ℕ) (depth : ℕ) (source : Source) (y : List ℕ) : Type 0 where
  pub nodes : Nodes
  pub about : Option (List ℕ)
  pub entries : List Entry
  pub ahead : IsAhead false nodes source y
  pub are : AreSubjects about l nodes entries
  pub fit : AreFit depth entries

-- the first one
pub record SubjectAhead (l : List ℕ) (depth : ℕ) (o : Opened) (t : Tag) (source : Source) : Type 0 where
  pub nodes : Nodes
  pub attributes : List Entry
  pub entries : List Entry
  pub tail : List ℕ
  pub ahead : IsAhead o.is_empty nodes source tail
  pub is : IsSubjectNode l o.place t nodes attributes entries
  pub fit : AreFit depth (attributes ++ entries)

module _ (law : KindsAreRead) (l : List ℕ) (depth : ℕ) (o : Opened) (white : Nodes) (t : Tag) (old mid : Source) (y : List ℕ)
    (a : SubjectsAhead l depth old y) (is_white : AreWhite white) (tag : TagAfter (Some o) white old mid)
    (start : IsStart o t old.scope mid.scope tag.at tag.octets mid.rest.now) where
  entered : AtElement o white t a.nodes old mid (a.ahead.row.0 ++ y)
  entered =
      let (e, row, ends) = a.ahead.row in
      element_entered law o white t a.nodes old mid (e ++ y) a.ahead.fit is_white tag start row (inr (e, y, ends, refl))

  first_are : AreSubjects a.about l (Element t o.place entered.entered.content entered.entered.more) a.entries
  first_are =
      subjects_front a.about l white (Element t o.place entered.entered.content entered.entered.more) a.entries is_white
      (subst (λ (q : Nodes). AreSubjects a.about l q a.entries) entered.is a.are)

  pub subject_tag : TagFits t
  subject_tag = entered.fit.0

  pub subjects_left : (nodes : Nodes) (on : Source) → InsideRead o.is_empty nodes mid on → on.scope ≡ ended mid.scope → SubjectsAhead l depth on y
  subjects_left nodes on read scope =
      let (e, row, ends) = a.ahead.row in
      let (declares, is, about, fs, own, rest, attributes, are, others, same) = first_are in
      record {
        nodes = entered.entered.more;
        about = a.about;
        entries = rest;
        ahead = record {
          left = read.moves.left;
          row = (e, row_after law o white t entered.left nodes old mid on (e ++ y) tag start entered.entered read scope, ends);
          fit = entered.fit.2;
        };
        are = others;
        fit = fit_back depth own rest (fit_back depth fs (own ++ rest) (subst (AreFit depth) same a.fit));
      }

  pub subject_ahead : IsLeft mid.at mid.rest.now → SubjectAhead l depth o t mid
  subject_ahead left =
      let (e, row, ends) = a.ahead.row in
      let (declares, is, about, fs, own, rest, attributes, are, others, same) = first_are in
      record {
        nodes = entered.entered.content;
        attributes = fs;
        entries = own;
        tail = entered.entered.tail;
        ahead = inside_ahead o white t a.nodes old mid (e ++ y) entered left;
        is = record { declares = declares; named = is; attributes = attributes; are = are };
        fit = fit_front depth (fs ++ own) rest (subst (AreFit depth) (same ∙ sym (append_assoc fs own rest)) a.fit);
      }

-- no subject has been named
pub new_fits : (s : Subject) → IsNew s → SubjectFits s
new_fits s (none, other) v is = let wrong = sym (ap (option_map (λ x. x.now)) none) ∙ is in absurd (cc)

-- ---- what was read is what was ahead

pub subjects_same : KindsAreRead → PacketIsInjective → (b : Bool) (u : Option (List ℕ)) (l : List ℕ) (d depth : ℕ) (old new : Source) (before after : Subject)
    (s : State) (output : Output) (nodes : Nodes) (es : List Entry) (y : List ℕ) → IsAhead b nodes old y → AreSubjects u l nodes es → AreFit d es
    → IsNew before → (r : SubjectsRead b l depth old new before after s output) → CanAll r.entries → r.entries ≡ es
subjects_same law once b u l d depth old new before after s output nodes es y ahead are fit fresh r can =
    let (same, tail) = inside_once law b r.nodes nodes old.scope old.at old.rest.now new.rest.now y r.inside.row ahead.row in
    let moved = subst (λ (q : Nodes). AreSubjects u l q es) (sym same) are in
    let (none, is) = r.only u fresh.1 (no_subject before u fresh.0) (are_all_about u l r.nodes es moved) in
    let (before_none, each) = r.are none in
    let (kept, read) = each u is in
    subjects_once once u u l r.nodes r.entries es read moved can (fit_can d es fit)
