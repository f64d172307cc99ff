-- Entries found by their tag.
use Rattle.std.proofs.Common.{◌≡◌, ℕ, ◌^◌, ◌<◌, ◌==◌, inl, inr, nat_lt, true, cond, ◌&&◌, Option, Some, None, option_map, find, List, []}
use Rattle.std.proofs.Common.{◌∷◌, map, filter_map, refl, sym, ◌∙◌, ap, ap₂, subst, eqb-true, ne_eqb, eq-eqb, append-nil}
use Rattle.std.specs.Prelude.{IfSome}
use Rattle.std.specs.List.{AllByRecursion, cons_option}
use Rattle.std.proofs.lemmas.Bool.{cond-true, cond-false, cond_both, cases_Bool}
use Rattle.px_bytes.specs.declared.Order.{Order}
use Rattle.px_bytes.specs.Numbers.{number, spelling}
use Rattle.px_bytes.specs.lemmas.NumberLaws.{number_spelling}
use Rattle.px_meaning.specs.declared.Dir.{Dir}
use Rattle.px_meaning.specs.Tree.{Fields}
use Rattle.px_meaning.specs.Roles.{at_tag, role}
use Rattle.px_meaning.specs.declared.Role.TheVariants.{To}
use Rattle.px_meaning.specs.declared.Role.{Role}
use Rattle.px_meaning.specs.Entry.{is_one_long, offset}
use Rattle.px_meaning.specs.Directory.{pointer, entry_with}
use Rattle.px_meaning.specs.Writable.{Item, Field, Iptc, Link, AtJpeg, JpegSize, AtStrips, StripSizes, item_size, put, put_some}
use Rattle.px_meaning.specs.Writable.{field_items}
use Rattle.px_layout.specs.declared.chunks.Chunk.TheVariants.{Table}
use Rattle.px_layout.specs.Plans.{Plan, place}
use Rattle.px_layout.specs.Laid.{item_bytes, last_bytes}
use Rattle.px_layout.specs.lemmas.ItemLaws.{Suits, item_value, item_field, entry_of}

-- ---- at_tag and put

module _ {X : Type 0} where
  pub at_none : (t : ℕ) (xs : List (ℕ × X)) → AllByRecursion (λ i. i.0 ≡ t → ⊥) xs → at_tag t xs ≡ None
  at_none t [] n = refl
  at_none t (x ∷ xs) n = cond-false (x.0 == t) (Some x.1) (at_tag t xs) (ne_eqb x.0 t n.0) ∙ at_none t xs n.1

  pub at_put_same : (t : ℕ) (x : X) (ys : List (ℕ × X)) → AllByRecursion (λ i. i.0 ≡ t → ⊥) ys → at_tag t (put t x ys) ≡ Some x
  at_put_same t x [] n = cond-true (t == t) (Some x) None (eq-eqb t t refl)
  at_put_same t x (y ∷ ys) n = cond_both (nat_lt t y.0) ((t, x) ∷ y ∷ ys) (y ∷ put t x ys) (λ zs. at_tag t zs ≡ Some x)
      (λ _. cond-true (t == t) (Some x) (at_tag t (y ∷ ys)) (eq-eqb t t refl))
      (λ _. cond-false (y.0 == t) (Some y.1) (at_tag t (put t x ys)) (ne_eqb y.0 t n.0) ∙ at_put_same t x ys n.1)

  pub at_put_other : (t u : ℕ) (x : X) (ys : List (ℕ × X)) → (u ≡ t → ⊥) → at_tag t (put u x ys) ≡ at_tag t ys
  at_put_other t u x [] n = cond-false (u == t) (Some x) None (ne_eqb u t n)
  at_put_other t u x (y ∷ ys) n = cond_both (nat_lt u y.0) ((u, x) ∷ y ∷ ys) (y ∷ put u x ys) (λ zs. at_tag t zs ≡ at_tag t (y ∷ ys))
      (λ _. cond-false (u == t) (Some x) (at_tag t (y ∷ ys)) (ne_eqb u t n))
      (λ _. ap (cond (y.0 == t) (Some y.1)) (at_put_other t u x ys n))

  pub at_some_same : (t : ℕ) (o : Option X) (ys : List (ℕ × X)) → AllByRecursion (λ i. i.0 ≡ t → ⊥) ys → at_tag t (put_some t o ys) ≡ o
  at_some_same t None ys n = at_none t ys n
  at_some_same t (Some x) ys n = at_put_same t x ys n

  pub at_some_other : (t u : ℕ) (o : Option X) (ys : List (ℕ × X)) → (u ≡ t → ⊥) → at_tag t (put_some u o ys) ≡ at_tag t ys
  at_some_other t u None ys n = refl
  at_some_other t u (Some x) ys n = at_put_other t u x ys n

  pub each_at : (P : ℕ × X → Type 0) (t : ℕ) (x : X) (xs : List (ℕ × X)) → AllByRecursion P xs → at_tag t xs ≡ Some x → P (t, x)
  each_at P t x [] h e = cc
  each_at P t x (y ∷ ys) h e = elim (cases_Bool (y.0 == t)) [
    | inl q ↦ let s : Some y.1 ≡ Some x = sym (cond-true (y.0 == t) (Some y.1) (at_tag t ys) q) ∙ e in
        let k : y.1 ≡ x = cc in let t' : y.0 ≡ t = eqb-true y.0 t q in
        subst (λ (z : X). P (t, z)) k (subst (λ (u : ℕ). P (u, y.1)) t' h.0)
    | inr q ↦ each_at P t x ys h.1 (sym (cond-false (y.0 == t) (Some y.1) (at_tag t ys) q) ∙ e)
  ]

pub at_fields : (t : ℕ) (fs : Fields) → at_tag t (field_items fs) ≡ option_map (λ v. Field v) (at_tag t fs)
at_fields t [] = refl
at_fields t (p ∷ fs) = elim (cases_Bool (p.0 == t)) [
  | inl q ↦ cond-true (p.0 == t) (Some (Field p.1)) (at_tag t (field_items fs)) q
      ∙ sym (ap (option_map (λ v. Field v)) (cond-true (p.0 == t) (Some p.1) (at_tag t fs) q))
  | inr q ↦ cond-false (p.0 == t) (Some (Field p.1)) (at_tag t (field_items fs)) q ∙ at_fields t fs
      ∙ sym (ap (option_map (λ v. Field v)) (cond-false (p.0 == t) (Some p.1) (at_tag t fs) q))
]

-- ---- fields among items

pub fields_put : (t : ℕ) (x : Item) (ys : List (ℕ × Item)) → item_value x ≡ None
    → filter_map item_field (put t x ys) ≡ filter_map item_field ys
fields_put t x [] n = ap (λ v. cons_option (option_map (λ v. (t, v)) v) []) n
fields_put t x (y ∷ ys) n =
    cond_both (nat_lt t y.0) ((t, x) ∷ y ∷ ys) (y ∷ put t x ys) (λ zs. filter_map item_field zs ≡ filter_map item_field (y ∷ ys))
    (λ _. ap (λ v. cons_option (option_map (λ v. (t, v)) v) (filter_map item_field (y ∷ ys))) n)
    (λ _. ap (cons_option (item_field y)) (fields_put t x ys n))

pub fields_some : (t : ℕ) (o : Option Item) (ys : List (ℕ × Item)) → IfSome o (λ x. item_value x ≡ None)
    → filter_map item_field (put_some t o ys) ≡ filter_map item_field ys
fields_some t None ys n = refl
fields_some t (Some x) ys n = fields_put t x ys n

pub fields_back : (fs : Fields) → filter_map item_field (field_items fs) ≡ fs
fields_back [] = refl
fields_back (p ∷ fs) = ap (λ ys. p ∷ ys) (fields_back fs)

-- ---- entries

module _ (plan : Plan) (o : Order) (filler : ℕ) (d : Dir) where
  pub entry_found : (t : ℕ) (xs : List (ℕ × Item)) → entry_with t (map (entry_of plan o filler d) xs) ≡ option_map
      (λ x. entry_of plan o filler d (t, x)) (at_tag t xs)
  unfolding entry_of
  entry_found t [] = refl
  entry_found t (x ∷ xs) = elim (cases_Bool (x.0 == t)) [
    | inl q ↦ cond-true (x.0 == t) (Some (entry_of plan o filler d x)) (entry_with t (map (entry_of plan o filler d) xs)) q
        ∙ ap (λ u. Some (entry_of plan o filler d (u, x.1))) (eqb-true x.0 t q)
        ∙ sym (ap (option_map (λ x. entry_of plan o filler d (t, x))) (cond-true (x.0 == t) (Some x.1) (at_tag t xs) q))
    | inr q ↦ cond-false (x.0 == t) (Some (entry_of plan o filler d x)) (entry_with t (map (entry_of plan o filler d) xs)) q
        ∙ entry_found t xs
        ∙ sym (ap (option_map (λ x. entry_of plan o filler d (t, x))) (cond-false (x.0 == t) (Some x.1) (at_tag t xs) q))
  ]

  -- the offset in an entry with one number
  pub offset_link : (t : ℕ) (e : Dir) → place plan (Table e) < 2 ^ 32
      → offset o (entry_of plan o filler d (t, Link e)) ≡ place plan (Table e)
  unfolding entry_of last_bytes item_size item_bytes
  offset_link t e h = ap (number o 4) (append-nil (spelling o 4 (place plan (Table e)))) ∙ number_spelling o 4 (place plan (Table e)) h

  link_of : (e : Dir) (x : Item) → Suits (To e) x → Link e ≡ x
  link_of e (Link f) h = ap (λ x. Link x) h
  link_of e (Field v) h = absurd h
  link_of e (Iptc i) h = absurd h
  link_of e AtJpeg h = absurd h
  link_of e (JpegSize n) h = absurd h
  link_of e (AtStrips n) h = absurd h
  link_of e (StripSizes ns) h = absurd h

  pub pointer_found : (t : ℕ) (e : Dir) (xs : List (ℕ × Item)) → role d t ≡ To e
      → ((x : Item) → at_tag t xs ≡ Some x → place plan (Table e) < 2 ^ 32) → AllByRecursion (λ i. Suits (role d i.0) i.1) xs →
      pointer o t (map (entry_of plan o filler d) xs) ≡ option_map (λ _. place plan (Table e)) (at_tag t xs)
  unfolding pointer entry_of
  pointer_found t e [] r h s = refl
  pointer_found t e (x ∷ xs) r h s = elim (cases_Bool (x.0 == t)) [
    | inl q ↦
        let k : Link e ≡ x.1 = link_of e x.1 (subst (λ (u : Role). Suits u x.1) (ap (role d) (eqb-true x.0 t q) ∙ r) s.0) in
        let one : is_one_long (entry_of plan o filler d x) ≡ true =
        subst (λ (i : Item). is_one_long (entry_of plan o filler d (x.0, i)) ≡ true) k refl in
        ap (option_map (offset o)) (cond-true ((x.0 == t) && is_one_long (entry_of plan o filler d x)) (Some (entry_of plan o filler d x))
        (find (λ e. (e.tag == t) && is_one_long e) (map (entry_of plan o filler d) xs)) (ap₂ (λ a b. a && b) q one))
        ∙ ap (λ i. Some (offset o (entry_of plan o filler d (x.0, i)))) (sym k)
        ∙ ap (λ n. Some n) (offset_link x.0 e (h x.1 (cond-true (x.0 == t) (Some x.1) (at_tag t xs) q)))
        ∙ sym (ap (option_map (λ _. place plan (Table e))) (cond-true (x.0 == t) (Some x.1) (at_tag t xs) q))
    | inr q ↦
        ap (option_map (offset o)) (cond-false ((x.0 == t) && is_one_long (entry_of plan o filler d x)) (Some (entry_of plan o filler d x))
        (find (λ e. (e.tag == t) && is_one_long e) (map (entry_of plan o filler d) xs))
        (ap (λ a. a && is_one_long (entry_of plan o filler d x)) q))
        ∙ pointer_found t e xs r (λ y p. h y (cond-false (x.0 == t) (Some x.1) (at_tag t xs) q ∙ p)) s.1
        ∙ sym (ap (option_map (λ _. place plan (Table e))) (cond-false (x.0 == t) (Some x.1) (at_tag t xs) q))
  ]
