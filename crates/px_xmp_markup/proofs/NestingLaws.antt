-- How marks lead from place to place.
use Rattle.std.proofs.Common.{◌≡◌, ℕ, suc, List, [], ◌∷◌, ◌++◌, length, refl, sym, ap, subst, ◌∙◌, inl, inr, arith, append_assoc, append-nil}
use Rattle.px_xmp_marks.specs.Reading.{Named}
use Rattle.px_xmp_markup.specs.Kinds.{Kind, Opening, Closing, Alone, Misc, Data}
use Rattle.px_xmp_markup.specs.Nesting.{Content, Nothing, AfterMisc, AfterData, AfterAlone, AfterElement, marks, IsShallow, IsRoot, AreMisc, AreRooted, AreOpen, Place, Among, After, LeadTo}
use Rattle.px_xmp_markup.specs.calls.Steps.{Step, ended}

-- the marks ks lead from p to q, one after another
abbrev pub Reach : Place → List Kind → Place → Type 0
Reach p [] q = p ≡ q
Reach p (k ∷ ks) q = (r : Place) × Step k p r × Reach r ks q

reach_append : (ks ls : List Kind) (p q r : Place) → Reach p ks q → Reach q ls r → Reach p (ks ++ ls) r
reach_append [] ls p q r e h = subst (λ (z : Place). Reach z ls r) (sym e) h
reach_append (k ∷ ks) ls p q r (s, a, b) h = (s, a, reach_append ks ls s q r b h)

-- content leads back to its place
content_reaches : (c : Content) (m : Named) (outer : List Named) → IsShallow (suc (length outer)) c
    → Reach (Among (m ∷ outer)) (marks c) (Among (m ∷ outer))
content_reaches Nothing m outer s = refl
content_reaches (AfterMisc more) m outer s = (Among (m ∷ outer), refl, content_reaches more m outer s)
content_reaches (AfterData more) m outer s = (Among (m ∷ outer), refl, content_reaches more m outer s)
content_reaches (AfterAlone n more) m outer s = (Among (m ∷ outer), (s.0, refl), content_reaches more m outer s.1)
content_reaches (AfterElement n inner more) m outer s = (
  Among (n ∷ m ∷ outer),
  (s.0, refl),
  reach_append (marks inner) (Closing n ∷ marks more) (Among (n ∷ m ∷ outer)) (Among (n ∷ m ∷ outer)) (Among (m ∷ outer))
      (content_reaches inner n (m ∷ outer) s.1) (Among (m ∷ outer), (refl, refl), content_reaches more m outer s.2),
)

misc_reaches : (ks : List Kind) (p : Place) → AreMisc ks → Reach p ks p
misc_reaches [] p h = refl
misc_reaches (k ∷ ks) p h = (p, subst (λ (z : Kind). Step z p p) (sym h.0) refl, misc_reaches ks p h.1)

root_reaches : (ks : List Kind) → IsRoot ks → Reach (Among []) ks After
root_reaches ks (inl (n, e)) = subst (λ (z : List Kind). Reach (Among []) z After) (sym e) (After, (omega arith, refl), refl)
root_reaches ks (inr (n, inner, s, e)) =
    subst (λ (z : List Kind). Reach (Among []) z After) (sym e) (
      Among (n ∷ []),
      (omega arith, refl),
      reach_append (marks inner) (Closing n ∷ []) (Among (n ∷ [])) (Among (n ∷ [])) After (content_reaches inner n [] s)
          (After, (refl, refl), refl),
    )

open_reaches : (names : List Named) (ks : List Kind) → AreOpen names ks → Reach (Among []) ks (Among names)
open_reaches [] ks h = misc_reaches ks (Among []) h
open_reaches (n ∷ outer) ks (before, inner, h, room, s, e) =
    subst (λ (z : List Kind). Reach (Among []) z (Among (n ∷ outer))) (sym e)
    (reach_append before (Opening n ∷ marks inner) (Among []) (Among outer) (Among (n ∷ outer)) (open_reaches outer before h)
    (Among (n ∷ outer), (room, refl), content_reaches inner n outer s))

-- what leads to a place by the grammar leads to it step by step
pub lead_reaches : (p : Place) (ks : List Kind) → LeadTo p ks → Reach (Among []) ks p
lead_reaches (Among names) ks h = open_reaches names ks h
lead_reaches After ks (before, root, after, b, r, a, e) =
    subst (λ (z : List Kind). Reach (Among []) z After) (sym e)
    (reach_append before (root ++ after) (Among []) (Among []) After (misc_reaches before (Among []) b)
    (reach_append root after (Among []) After After (root_reaches root r) (misc_reaches after After a)))

-- ---- one mark more

joined : Content → Content → Content
joined Nothing d = d
joined (AfterMisc more) d = AfterMisc (joined more d)
joined (AfterData more) d = AfterData (joined more d)
joined (AfterAlone n more) d = AfterAlone n (joined more d)
joined (AfterElement n inner more) d = AfterElement n inner (joined more d)

marks_joined : (c d : Content) → marks (joined c d) ≡ marks c ++ marks d
unfolding joined
marks_joined Nothing d = refl
marks_joined (AfterMisc more) d = ap (λ (x : List Kind). Misc ∷ x) (marks_joined more d)
marks_joined (AfterData more) d = ap (λ (x : List Kind). Data ∷ x) (marks_joined more d)
marks_joined (AfterAlone n more) d = ap (λ (x : List Kind). Alone n ∷ x) (marks_joined more d)
marks_joined (AfterElement n inner more) d =
    ap (λ (x : List Kind). Opening n ∷ (marks inner ++ Closing n ∷ x)) (marks_joined more d)
    ∙ sym (ap (λ (x : List Kind). Opening n ∷ x) (append_assoc (marks inner) (Closing n ∷ marks more) (marks d)))

shallow_joined : (k : ℕ) (c d : Content) → IsShallow k c → IsShallow k d → IsShallow k (joined c d)
unfolding joined
shallow_joined k Nothing d s t = t
shallow_joined k (AfterMisc more) d s t = shallow_joined k more d s t
shallow_joined k (AfterData more) d s t = shallow_joined k more d s t
shallow_joined k (AfterAlone n more) d s t = (s.0, shallow_joined k more d s.1 t)
shallow_joined k (AfterElement n inner more) d s t = (s.0, s.1, shallow_joined k more d s.2 t)

-- more content of the innermost element
more_content : (m : Named) (outer : List Named) (ks : List Kind) (d : Content) → AreOpen (m ∷ outer) ks
    → IsShallow (suc (length outer)) d → AreOpen (m ∷ outer) (ks ++ marks d)
more_content m outer ks d (before, inner, h, room, s, e) t = (
  before,
  joined inner d,
  h,
  room,
  shallow_joined (suc (length outer)) inner d s t,
  ap (λ (x : List Kind). x ++ marks d) e ∙ append_assoc before (Opening m ∷ marks inner) (marks d)
      ∙ ap (λ (x : List Kind). before ++ Opening m ∷ x) (sym (marks_joined inner d)),
)

misc_more : (ks : List Kind) → AreMisc ks → AreMisc (ks ++ Misc ∷ [])
misc_more [] h = (refl, tt)
misc_more (k ∷ ks) h = (h.0, misc_more ks h.1)

-- another mark that may be anywhere
misc_leads : (p : Place) (ks : List Kind) → LeadTo p ks → LeadTo p (ks ++ Misc ∷ [])
misc_leads (Among []) ks h = misc_more ks h
misc_leads (Among (m ∷ outer)) ks h = more_content m outer ks (AfterMisc Nothing) h tt
misc_leads After ks (before, root, after, b, r, a, e) = (
  before,
  root,
  after ++ Misc ∷ [],
  b,
  r,
  misc_more after a,
  ap (λ (x : List Kind). x ++ Misc ∷ []) e ∙ append_assoc before (root ++ after) (Misc ∷ [])
      ∙ ap (λ (x : List Kind). before ++ x) (append_assoc root after (Misc ∷ [])),
)

-- the root, and nothing after it
root_leads : (before root : List Kind) → AreMisc before → IsRoot root → AreRooted (before ++ root)
root_leads before root b r = (before, root, [], b, r, tt, ap (λ (x : List Kind). before ++ x) (sym (append-nil root)))

closes : (n : Named) (outer : List Named) (ks : List Kind) → AreOpen (n ∷ outer) ks → LeadTo (ended outer) (ks ++ Closing n ∷ [])
closes n [] ks (before, inner, h, room, s, e) =
    let whole : before ++ (Opening n ∷ (marks inner ++ Closing n ∷ [])) ≡ ks ++ Closing n ∷ [] =
    sym (ap (λ (x : List Kind). x ++ Closing n ∷ []) e ∙ append_assoc before (Opening n ∷ marks inner) (Closing n ∷ [])) in
    subst AreRooted whole (root_leads before (Opening n ∷ (marks inner ++ Closing n ∷ [])) h (inr (n, inner, s, refl)))
closes n (m ∷ outer) ks (before, inner, h, room, s, e) =
    let whole : before ++ (Opening n ∷ (marks inner ++ Closing n ∷ [])) ≡ ks ++ Closing n ∷ [] =
    sym (ap (λ (x : List Kind). x ++ Closing n ∷ []) e ∙ append_assoc before (Opening n ∷ marks inner) (Closing n ∷ [])) in
    subst (AreOpen (m ∷ outer)) whole (more_content m outer before (AfterElement n inner Nothing) h (room, s, tt))

-- a step leads on
pub step_leads : (k : Kind) (p q : Place) (ks : List Kind) → LeadTo p ks → Step k p q → LeadTo q (ks ++ k ∷ [])
step_leads Misc p q ks h e = subst (λ (z : Place). LeadTo z (ks ++ Misc ∷ [])) (sym e) (misc_leads p ks h)
step_leads Data (Among []) q ks h e = absurd e
step_leads Data (Among (m ∷ outer)) q ks h e =
    subst (λ (z : Place). LeadTo z (ks ++ Data ∷ [])) (sym e) (more_content m outer ks (AfterData Nothing) h tt)
step_leads Data After q ks h e = absurd e
step_leads (Alone n) (Among []) q ks h e =
    subst (λ (z : Place). LeadTo z (ks ++ Alone n ∷ [])) (sym e.1) (root_leads ks (Alone n ∷ []) h (inl (n, refl)))
step_leads (Alone n) (Among (m ∷ outer)) q ks h e =
    subst (λ (z : Place). LeadTo z (ks ++ Alone n ∷ [])) (sym e.1) (more_content m outer ks (AfterAlone n Nothing) h (e.0, tt))
step_leads (Alone n) After q ks h e = absurd e
step_leads (Opening n) (Among names) q ks h e =
    subst (λ (z : Place). LeadTo z (ks ++ Opening n ∷ [])) (sym e.1) (ks, Nothing, h, e.0, tt, refl)
step_leads (Opening n) After q ks h e = absurd e
step_leads (Closing n) (Among []) q ks h e = absurd e
step_leads (Closing n) (Among (m ∷ outer)) q ks h e =
    subst (λ (z : Place). LeadTo z (ks ++ Closing n ∷ [])) (sym e.1)
    (closes n outer ks (subst (λ (z : Named). AreOpen (z ∷ outer) ks) (sym e.0) h))
step_leads (Closing n) After q ks h e = absurd e

-- a step leads to one place
pub step_once : (k : Kind) (p q r : Place) → Step k p q → Step k p r → q ≡ r
step_once Misc p q r a b = a ∙ sym b
step_once Data (Among []) q r a b = absurd a
step_once Data (Among (m ∷ outer)) q r a b = a ∙ sym b
step_once Data After q r a b = absurd a
step_once (Alone n) (Among names) q r a b = a.1 ∙ sym b.1
step_once (Alone n) After q r a b = absurd a
step_once (Opening n) (Among names) q r a b = a.1 ∙ sym b.1
step_once (Opening n) After q r a b = absurd a
step_once (Closing n) (Among []) q r a b = absurd a
step_once (Closing n) (Among (m ∷ outer)) q r a b = a.1 ∙ sym b.1
step_once (Closing n) After q r a b = absurd a
