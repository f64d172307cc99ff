-- The checks of an entry in two parts: its shape, and its value.
use Rattle.std.proofs.Common.{◌≡◌, ℕ, ◌*◌, List, [], ◌∷◌, ◌++◌, Bool, Option, Some, None, is_some, refl, sym, ap, ap₂, subst, ◌∙◌}
use Rattle.px_bytes.specs.declared.Order.{Order}
use Rattle.px_bytes.specs.declared.Cause.TheVariants.{Unsorted, Doubled, UnknownType, MisplacedOffset, PointerForm}
use Rattle.px_bytes.specs.declared.Refusal.{Refusal}
use Rattle.px_bytes.specs.Range.{Range}
use Rattle.px_bytes.specs.Checks.{Check, check, first_false, Refuses}
use Rattle.px_bytes.specs.lemmas.CheckLaws.{Refuses_more, Refuses_after, all_true}
use Rattle.px_field.specs.declared.Form.{Form}
use Rattle.px_field.specs.Forms.{form_of, size}
use Rattle.px_tree.specs.declared.entries.Head.{Head}
use Rattle.px_tree.specs.declared.entries.Shape.{Shape}
use Rattle.px_meaning.specs.declared.Dir.{Dir}
use Rattle.px_meaning.specs.declared.Role.{Role}
use Rattle.px_meaning.specs.declared.Role.TheVariants.{Plain, Widened, Forbidden, Record, JpegOffset, JpegLength, StripOffsets}
use Rattle.px_meaning.specs.declared.Role.TheVariants.{StripLengths, To}
use Rattle.px_meaning.specs.Roles.{role}
use Rattle.px_meaning.specs.Entry.{Entry, is_allowed, has_form, has_raw, raw_size, offset, sized}
use Rattle.px_meaning.specs.Footprint.{placed_range}
use Rattle.px_tree.specs.Checks.{is_not_below, differs, shape_checks, value_checks, entry_checks}
use Rattle.px_tree.specs.calls.Reading.{Shows, bare, span, span_checks}

abbrev made : ℕ → ℕ → ℕ → List ℕ → Entry
made t c n l = record { tag = t; code = c; count = n; last = l }

form_any : (r : Role) (t c n : ℕ) (l m : List ℕ) → has_form r (made t c n l) ≡ has_form r (made t c n m)
form_any Plain t c n l m = refl
form_any Widened t c n l m = refl
form_any Forbidden t c n l m = refl
form_any Record t c n l m = refl
form_any JpegOffset t c n l m = refl
form_any JpegLength t c n l m = refl
form_any StripOffsets t c n l m = refl
form_any StripLengths t c n l m = refl
form_any (To d) t c n l m = refl

-- the checks of the shape look at no last field
pub shape_same : (o : Order) (d : Dir) (p : ℕ) (u : Option ℕ) (h : Head) (e : Entry) → Shows o h e
    → shape_checks d p u (bare h) ≡ shape_checks d p u e
shape_same o d p u h e s =
    ap (λ (t : ℕ). shape_checks d p u (made t h.code h.count [])) s.tag
    ∙ ap (λ (c : ℕ). shape_checks d p u (made e.tag c h.count [])) s.code
    ∙ ap (λ (n : ℕ). shape_checks d p u (made e.tag e.code n [])) s.count
    ∙ ap (λ (k : Bool). check Unsorted p (is_not_below u e.tag) ∷ check Doubled p (differs u e.tag) ∷ check UnknownType p
    (is_some (form_of e.code)) ∷ check MisplacedOffset p (is_allowed (role d e.tag)) ∷ check PointerForm p k ∷ [])
    (form_any (role d e.tag) e.tag e.code e.count [] e.last)

-- the checks of a value, by its offset and its size
value_checks_is : (b : List ℕ) (o : Order) (taken : List Range) (p : ℕ) (e : Entry)
    → value_checks b o taken p e ≡ span_checks b taken p (offset o e) (raw_size e)
unfolding has_raw placed_range
value_checks_is b o taken p e = refl

entry_checks_parts : (b : List ℕ) (o : Order) (d : Dir) (taken : List Range) (p : ℕ) (u : Option ℕ) (e : Entry)
    → entry_checks b o d taken p u e ≡ shape_checks d p u e ++ span_checks b taken p (offset o e) (raw_size e)
unfolding entry_checks
entry_checks_parts b o d taken p u e = ap (λ (cs : List Check). shape_checks d p u e ++ cs) (value_checks_is b o taken p e)

placed_range_is : (o : Order) (e : Entry) → placed_range o e ≡ span (offset o e) (raw_size e)
unfolding placed_range
placed_range_is o e = refl

-- the bytes of a value
pub raw_size_is : (e : Entry) (f : Form) → form_of e.code ≡ Some f → raw_size e ≡ e.count * size f
unfolding raw_size
raw_size_is e f h = ap (λ (x : Option Form). sized x e.count) h

-- ---- an entry judged in two steps
module _ (b : List ℕ) (o : Order) (d : Dir) (taken : List Range) (p : ℕ) (u : Option ℕ) (h : Head) (e : Entry) (s : Shows o h e) where
  pub shape_refuses : (r : Refusal) → Refuses r (shape_checks d p u (bare h)) → Refuses r (entry_checks b o d taken p u e)
  shape_refuses r k = subst (Refuses r) (sym (entry_checks_parts b o d taken p u e))
      (Refuses_more r (shape_checks d p u e) (span_checks b taken p (offset o e) (raw_size e))
      (subst (Refuses r) (shape_same o d p u h e s) k))

  shape_true : first_false (shape_checks d p u (bare h)) ≡ None → first_false (shape_checks d p u e) ≡ None
  shape_true k = subst (λ (cs : List Check). first_false cs ≡ None) (shape_same o d p u h e s) k

  module _ (t : Shape) (same : t.head ≡ h) (known : form_of h.code ≡ Some t.form)
      (good : first_false (shape_checks d p u (bare h)) ≡ None) where
    abbrev len : ℕ
    len = t.head.count * size t.form

    len_is : len ≡ raw_size e
    len_is = ap (λ (x : Head). x.count * size t.form) same ∙ ap (λ (x : ℕ). x * size t.form) s.count
        ∙ sym (raw_size_is e t.form (ap form_of (sym s.code) ∙ known))

    start_is : t.head.offset ≡ offset o e
    start_is = ap (λ (x : Head). x.offset) same ∙ s.offset_is

    value_same : span_checks b taken p t.head.offset len ≡ span_checks b taken p (offset o e) (raw_size e)
    value_same = ap₂ (λ (x y : ℕ). span_checks b taken p x y) start_is len_is

    pub value_refuses : (r : Refusal) → Refuses r (span_checks b taken p t.head.offset len) → Refuses r (entry_checks b o d taken p u e)
    value_refuses r k = subst (Refuses r) (sym (entry_checks_parts b o d taken p u e))
        (Refuses_after r (shape_checks d p u e) (span_checks b taken p (offset o e) (raw_size e)) (shape_true good)
        (subst (Refuses r) value_same k))

    pub entry_true : first_false (span_checks b taken p t.head.offset len) ≡ None → first_false (entry_checks b o d taken p u e) ≡ None
    entry_true k = ap first_false (entry_checks_parts b o d taken p u e)
        ∙ all_true (shape_checks d p u e) (span_checks b taken p (offset o e) (raw_size e)) (shape_true good)
        (subst (λ (cs : List Check). first_false cs ≡ None) value_same k)

    pub range_same : span t.head.offset len ≡ placed_range o e
    range_same = ap₂ (λ (x y : ℕ). span x y) start_is len_is ∙ sym (placed_range_is o e)
