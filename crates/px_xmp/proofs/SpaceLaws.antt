-- Namespaces that are not left to another reader.
use Rattle.std.proofs.Common.{◌≡◌, ◌⊎◌, ◌==◌, ◌&&◌, ◌||◌, inl, inr, ℕ, Bool, true, false, not, nat_eq, bytes_eq, if◌then◌else◌, List, [], ◌∷◌, codes, length, refl, sym, ap, ◌∙◌}
use Rattle.std.proofs.lemmas.Bool.{and_parts, and_from}
use Rattle.std.specs.List.{list_all, starts_with}
use Rattle.px_xmp_document.specs.Scopes.{is_same, xmlns_space}
use Rattle.px_xmp_document.specs.Bindings.{is_reserved, is_left}
use Rattle.px_xmp_forms.specs.Labels.{is_name, before_name}
use Rattle.px_xmp_forms.specs.Spaces.{rdf_space, meta_space, xml_space, is_known_space, is_space_octet, is_rare_space}
use Rattle.px_xmp.proofs.MeaningLaws.{same_octets}

pub not_left : (u : List ℕ) → is_rare_space u ≡ false → is_left u ≡ false
not_left u h = choose (not (is_same u [])) (is_rare_space u) h
  where
    choose : (a b : Bool) → b ≡ false → (a && b) ≡ false
    choose true b h = h
    choose false b h = refl

-- ---- what is before the name at the end of one

octets_before : (x : List ℕ) → list_all is_space_octet x ≡ true → list_all is_space_octet (before_name x) ≡ true
octets_before [] h = refl
octets_before (o ∷ x) h =
    let p = and_parts (is_space_octet o) (list_all is_space_octet x) h in
    by_name (is_name (o ∷ x)) (and_from (is_space_octet o) (list_all is_space_octet (before_name x)) p.0 (octets_before x p.1))
  where
    by_name : (b : Bool) → list_all is_space_octet (o ∷ before_name x) ≡ true
        → list_all is_space_octet (if b then [] else o ∷ before_name x) ≡ true
    by_name true h = refl
    by_name false h = h

start_before : (p x : List ℕ) → starts_with nat_eq x p ≡ false → starts_with nat_eq (before_name x) p ≡ false
start_before [] x h = absurd (cc)
start_before (c ∷ p) [] h = h
start_before (c ∷ p) (o ∷ x) h = by_name (is_name (o ∷ x)) (both (nat_eq c o) (starts_with nat_eq x p) (starts_with nat_eq (before_name x) p) h (start_before p x))
  where
    both : (a b d : Bool) → (a && b) ≡ false → (b ≡ false → d ≡ false) → (a && d) ≡ false
    both true b d h more = more h
    both false b d h more = refl

    by_name : (b : Bool) → starts_with nat_eq (o ∷ before_name x) (c ∷ p) ≡ false
        → starts_with nat_eq (if b then [] else o ∷ before_name x) (c ∷ p) ≡ false
    by_name true h = refl
    by_name false h = h

abbrev rare_if : Bool → Bool → Bool → Bool → Bool → Bool → Bool
rare_if known octets none a b c = not known && (not octets || none || a || b || c)

abbrev IsNone : Bool → Bool → Bool → Bool → Bool → Type 0
IsNone octets none a b c = (octets ≡ true) × (none ≡ false) × (a ≡ false) × (b ≡ false) × (c ≡ false)

pub rare_parts : (known octets none a b c : Bool) → rare_if known octets none a b c ≡ false → (known ≡ true) ⊎ IsNone octets none a b c
rare_parts true octets none a b c h = inl refl
rare_parts false false none a b c h = absurd (cc)
rare_parts false true true a b c h = absurd (cc)
rare_parts false true false true b c h = absurd (cc)
rare_parts false true false false true c h = absurd (cc)
rare_parts false true false false false true h = absurd (cc)
rare_parts false true false false false false h = inr (refl, refl, refl, refl, refl)

none_rare : (known octets none a b c : Bool) → IsNone octets none a b c → rare_if known octets none a b c ≡ false
none_rare true octets none a b c h = refl
none_rare false false none a b c h = let wrong = h.0 in absurd (cc)
none_rare false true true a b c h = let wrong = h.1 in absurd (cc)
none_rare false true false true b c h = let wrong = h.2 in absurd (cc)
none_rare false true false false true c h = let wrong = h.3 in absurd (cc)
none_rare false true false false false true h = let wrong = h.4 in absurd (cc)
none_rare false true false false false false h = refl

known_before : (u : List ℕ) → is_known_space u ≡ true → is_rare_space (before_name u) ≡ false
known_before u h = by_test (bytes_eq u rdf_space) refl (bytes_eq u meta_space) refl (bytes_eq u xml_space) refl h
  where
    before_is : (v : List ℕ) → bytes_eq u v ≡ true → is_rare_space (before_name v) ≡ false → is_rare_space (before_name u) ≡ false
    before_is v e k = ap (λ (z : List ℕ). is_rare_space (before_name z)) (same_octets u v e) ∙ k

    by_test : (a : Bool) → bytes_eq u rdf_space ≡ a → (b : Bool) → bytes_eq u meta_space ≡ b → (c : Bool) → bytes_eq u xml_space ≡ c
        → (a || b || c) ≡ true → is_rare_space (before_name u) ≡ false
    by_test true e b f c g h = before_is rdf_space e refl
    by_test false e true f c g h = before_is meta_space f refl
    by_test false e false f true g h = before_is xml_space g refl
    by_test false e false f false g h = absurd (cc)

rare_before : (u : List ℕ) → before_name (before_name u) ≡ before_name u → is_rare_space u ≡ false → is_rare_space (before_name u) ≡ false
rare_before u again h =
    elim (rare_parts (is_known_space u) (list_all is_space_octet u) (length (before_name u) == 0) (starts_with nat_eq u rdf_space)
    (starts_with nat_eq u xml_space) (starts_with nat_eq u xmlns_space) h) [
      | inl known ↦ known_before u known
      | inr (octets, some, a, b, c) ↦
          let v : List ℕ = before_name u in
          none_rare (is_known_space v) (list_all is_space_octet v) (length (before_name v) == 0) (starts_with nat_eq v rdf_space)
          (starts_with nat_eq v xml_space) (starts_with nat_eq v xmlns_space) (
            octets_before u octets,
            ap (λ (z : List ℕ). length z == 0) again ∙ some,
            start_before rdf_space u a,
            start_before xml_space u b,
            start_before xmlns_space u c,
          )
    ]

-- a namespace that is not left to another reader, or that of the prefix xmlns, which no declaration has
abbrev pub IsKept : List ℕ → Type 0
IsKept u = (is_left u ≡ false) ⊎ (u ≡ xmlns_space)

pub kept_before : (u : List ℕ) → before_name (before_name u) ≡ before_name u → IsKept u → IsKept (before_name u)
kept_before u again (inr e) = inr (ap before_name e)
kept_before [] again (inl h) = inl refl
kept_before (o ∷ x) again (inl h) = inl (not_left (before_name (o ∷ x)) (rare_before (o ∷ x) again h))

-- one to which the prefix p can be bound is not rare
pub kept_known : (u : List ℕ) → IsKept u → is_same u [] ≡ false → is_reserved (codes "p") u ≡ false → is_rare_space u ≡ false
kept_known u (inl h) some free = sym (ap (λ (b : Bool). not b && is_rare_space u) some) ∙ h
kept_known u (inr e) some free = let wrong : true ≡ false = sym (ap (is_reserved (codes "p")) e) ∙ free in absurd (cc)
