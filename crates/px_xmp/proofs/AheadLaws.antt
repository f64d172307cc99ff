-- What is read of nodes that are left.
use Rattle.std.proofs.Common.{◌≡◌, ℕ, Bool, true, false, Option, Some, None, is_some, List, ap, subst, ◌∙◌}
use Rattle.std.specs.Prelude.{Err, ⊤}
use Rattle.px_xmp_forms.specs.Causes.{FailsByMemory}
use Rattle.px_xmp_forms.specs.declared.faults.Refusal.{Refusal}
use Rattle.px_xmp_forms.specs.declared.faults.Refusal.TheVariants as refusals
use Rattle.px_xmp.specs.Marks.{Mark, Start, End, Text, Other}
use Rattle.px_xmp.specs.Tags.{Tag}
use Rattle.px_xmp.specs.Nodes.{Nodes, Nothing, Words, Element, AreNodes}
use Rattle.px_xmp.specs.Meaning.{AreWhite}
use Rattle.px_xmp.specs.Reading as reading
use Rattle.px_xmp.specs.Reading.{What}
use Rattle.px_xmp.specs.Laws.{KindsAreRead}
use Rattle.px_xmp.specs.declared.elements.Opened.{Opened}
use Rattle.px_xmp.specs.declared.source.Source.{Source}
use Rattle.px_xmp.specs.calls.Steps.{IsLeft, IsStart, TagAfter}
use Rattle.px_xmp.specs.calls.Fits.{NodesFit, IsAhead}
use Rattle.px_xmp.proofs.StepLaws.{joined}
use Rattle.px_xmp.proofs.NodeLaws.{IsStop}
use Rattle.px_xmp.proofs.RefusedLaws.{Entered, enter_after}

-- ---- results

pub memory_says : (X Y : Type 0) (e : Refusal) → FailsByMemory {X = X} (Err e) → FailsByMemory {X = Y} (Err e)
memory_says X Y (refusals.Content cause place) h = h
memory_says X Y refusals.OutOfMemory h = tt

pub none_some : {A : Type 0} (o : Option A) → o ≡ None → is_some o ≡ true → ⊥
none_some None e h = absurd (cc)
none_some (Some x) e h = absurd (cc)

-- ---- tags

abbrev pub is_tag : Mark → Bool
is_tag (Start n xs empty) = true
is_tag End = true
is_tag (Text kind octets) = false
is_tag Other = false

-- what is read is a tag
abbrev pub IsTagRead : What → Type 0
IsTagRead (reading.Tag t) = ⊤
IsTagRead reading.End = ⊤
IsTagRead (reading.Words kind octets) = ⊥
IsTagRead reading.Other = ⊥

-- ---- an element that is entered, after white space

pub fit_after : (white left : Nodes) → AreWhite white → NodesFit (joined white left) → NodesFit left
fit_after Nothing left h fit = fit
fit_after (Words t more) left h fit = fit_after more left h.1 fit
fit_after (Element tag place inner more) left h fit = absurd h

-- nodes have an element that was entered
pub record AtElement (o : Opened) (white : Nodes) (t : Tag) (nodes : Nodes) (old mid : Source) (z : List ℕ) : Type 0 where
  pub left : Nodes
  pub entered : Entered o t left old.scope mid.scope mid.at mid.rest.now z
  pub is : nodes ≡ joined white (Element t o.place entered.content entered.more)
  pub fit : NodesFit (Element t o.place entered.content entered.more)

pub element_entered : KindsAreRead → (o : Opened) (white : Nodes) (t : Tag) (nodes : Nodes) (old mid : Source) (z : List ℕ) → NodesFit nodes
    → AreWhite white → (tag : TagAfter (Some o) white old mid) → IsStart o t old.scope mid.scope tag.at tag.octets mid.rest.now
    → AreNodes nodes old.scope old.at old.rest.now z → IsStop z → AtElement o white t nodes old mid z
element_entered law o white t nodes old mid z fit is_white tag start row stop =
    let e = enter_after law o white t nodes old mid z is_white tag start row stop in
    let is : nodes ≡ joined white (Element t o.place e.entered.content e.entered.more) =
    e.whole ∙ ap (λ (q : Nodes). joined white q) e.entered.is in
    record {
      left = e.left;
      entered = e.entered;
      is = is;
      fit = fit_after white (Element t o.place e.entered.content e.entered.more) is_white (subst NodesFit is fit);
    }

-- what is in it
pub inside_ahead : (o : Opened) (white : Nodes) (t : Tag) (nodes : Nodes) (old mid : Source) (z : List ℕ) → (e : AtElement o white t nodes old mid z)
    → IsLeft mid.at mid.rest.now → IsAhead o.is_empty e.entered.content mid e.entered.tail
inside_ahead o white t nodes old mid z e left = record { left = left; row = e.entered.within; fit = e.fit.1 }
