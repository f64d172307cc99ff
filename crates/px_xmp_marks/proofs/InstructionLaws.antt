-- What is read as a processing instruction is one, and each is read.
use Rattle.std.proofs.Common.{◌≡◌, ◌≤◌, ◌+◌, ◌==◌, ◌||◌, ◌⊎◌, ℕ, zero, suc, Bool, true, false, cond, nat_eq, get_or, codes, List, [], ◌∷◌, ◌++◌, length, take, drop}
use Rattle.std.proofs.Common.{Option, Some, None, option_and_then, sym, ap, subst, inl, inr, ◌∙◌, refl, arith, append_assoc, length-append, eqb-true}
use Rattle.std.proofs.lemmas.List.{take_at, drop_at, take-append-drop, length-take-le}
use Rattle.std.proofs.lemmas.Bool.{cases_Bool, cond-true, cond-false, ne_eqb}
use Rattle.std.specs.List.{starts_with}
use Rattle.px_xmp_marks.specs.Reading.{is_space, is_name_char, ncname}
use Rattle.px_xmp_marks.specs.Grammar.{AreSpaces}
use Rattle.px_xmp_marks.specs.Sections.{find, HasNo}
use Rattle.px_xmp_marks.specs.Instructions.{is_reserved, begins_space, to_end, from_target, instruction, IsInstruction, InstructionsAreRead, OnlyInstructionsAreRead}
use Rattle.px_xmp_marks.proofs.NameLaws.{Stops, ReadNcName, ncname_reads, ncname_found, some_same}
use Rattle.px_xmp_marks.proofs.AttributeLaws.{space_ends}
use Rattle.px_xmp_marks.proofs.TagLaws.{starts_from}
use Rattle.px_xmp_marks.proofs.SectionLaws.{Found, find_found, numbers_differ}

abbrev mark : List ℕ
mark = codes "?>"

mark_here : (o : ℕ) (y rest : List ℕ) → HasNo mark (o ∷ y) → starts_with nat_eq (o ∷ (y ++ (mark ++ rest))) mark ≡ false
mark_here o y rest h = elim (cases_Bool (starts_with nat_eq (o ∷ (y ++ (mark ++ rest))) mark)) [
  | inr f ↦ f
  | inl t ↦ absurd (by_length o y h (starts_from mark (o ∷ (y ++ (mark ++ rest))) t))
]
  where
    by_length : (o : ℕ) (y : List ℕ) → HasNo mark (o ∷ y) → o ∷ (y ++ (mark ++ rest)) ≡ mark ++ drop 2 (o ∷ (y ++ (mark ++ rest))) → ⊥
    by_length o [] h e = numbers_differ 63 62 (ap (λ (z : List ℕ). get_or z 1 0) e) refl
    by_length o (d ∷ y) h e =
        let a : o ≡ 63 = ap (λ (z : List ℕ). get_or z 0 0) e in
        let b : d ≡ 62 = ap (λ (z : List ℕ). get_or z 1 0) e in
        h [] y (cc)

pub mark_found : (j : ℕ) (y rest : List ℕ) → HasNo mark y → find mark j (y ++ (mark ++ rest)) ≡ Some (j + length y)
unfolding find
mark_found j [] rest h = ap Some (omega arith)
mark_found j (o ∷ y) rest h =
    cond-false (starts_with nat_eq (o ∷ (y ++ (mark ++ rest))) mark) (Some j) (find mark (suc j) (y ++ (mark ++ rest))) (mark_here o y rest h)
    ∙ mark_found (suc j) y rest (λ a b e. h (o ∷ a) b (ap (λ (z : List ℕ). o ∷ z) e)) ∙ ap Some (omega arith)

not_space : (o : ℕ) → is_space o ≡ true → o ≡ 63 → ⊥
not_space o h e = let t : false ≡ true = ap is_space (sym e) ∙ h in absurd (cc)

spaces_too : (s y : List ℕ) → AreSpaces s → HasNo mark y → HasNo mark (s ++ y)
spaces_too [] y p h = h
spaces_too (o ∷ s) y p h = at (spaces_too s y p.1 h)
  where
    at : HasNo mark (s ++ y) → (a b : List ℕ) → o ∷ (s ++ y) ≡ a ++ (mark ++ b) → ⊥
    at k [] b e = not_space o p.0 (ap (λ (z : List ℕ). get_or z 0 0) e)
    at k (c ∷ a) b e = k a b (ap (λ (z : List ℕ). drop 1 z) e)

-- a name ends where the white space or the end of an instruction begins
after_target : (s y rest : List ℕ) → AreSpaces s → ((s ≡ []) × (y ≡ [])) ⊎ (1 ≤ length s) → Stops is_name_char ((s ++ y) ++ (mark ++ rest))
after_target [] y rest p (inl e) = subst (λ (z : List ℕ). Stops is_name_char (z ++ (mark ++ rest))) (sym e.1) refl
after_target [] y rest p (inr l) = absurd (omega (arith, l))
after_target (o ∷ s) y rest p k = (space_ends o p.0).0

-- white space is there, or nothing
spaced : (s y rest : List ℕ) → AreSpaces s → ((s ≡ []) × (y ≡ [])) ⊎ (1 ≤ length s)
    → ((length (s ++ y) == 0) || begins_space ((s ++ y) ++ (mark ++ rest))) ≡ true
spaced [] y rest p (inl e) = ap (λ (z : List ℕ). (length z == 0) || begins_space (z ++ (mark ++ rest))) e.1
spaced [] y rest p (inr l) = absurd (omega (arith, l))
spaced (o ∷ s) y rest p k = ap (λ (b : Bool). b || is_space o) (ne_eqb (suc (length (s ++ y))) 0 (λ e. omega (arith, e))) ∙ p.0

pub instructions_are_read : InstructionsAreRead
unfolding instruction
instructions_are_read x rest i =
    let t = i.target in
    let y = i.space ++ i.content in
    let z = y ++ (mark ++ rest) in
    let inner : (i.space ++ (i.content ++ mark)) ++ rest ≡ z =
    ap (λ (u : List ℕ). u ++ rest) (sym (append_assoc i.space i.content mark)) ∙ append_assoc y mark rest in
    let all : x ++ rest ≡ codes "<?" ++ (t ++ z) =
    ap (λ (u : List ℕ). u ++ rest) i.whole
    ∙ ap (λ (u : List ℕ). codes "<?" ++ u) (append_assoc t (i.space ++ (i.content ++ mark)) rest ∙ ap (λ (u : List ℕ). t ++ u) inner) in
    let size : 2 + length t + length y + 2 ≡ length x =
    omega (arith, ap length i.whole, length-append t (i.space ++ (i.content ++ mark)), length-append i.space (i.content ++ mark), length-append i.content mark, length-append i.space i.content) in
    ap instruction all ∙ ap (option_and_then (from_target (t ++ z))) (ncname_reads t z i.name (after_target i.space i.content rest i.spaced i.parted))
    ∙ ap (λ (u : List ℕ). cond (is_reserved u) None (option_and_then (to_end (length t) (drop (length t) (t ++ z))) (find mark 0 (drop (length t) (t ++ z))))) (take_at t z (length t) refl)
    ∙ cond-false (is_reserved t) None (option_and_then (to_end (length t) (drop (length t) (t ++ z))) (find mark 0 (drop (length t) (t ++ z)))) i.other
    ∙ ap (λ (u : List ℕ). option_and_then (to_end (length t) u) (find mark 0 u)) (drop_at t z (length t) refl)
    ∙ ap (option_and_then (to_end (length t) z)) (mark_found 0 y rest (spaces_too i.space i.content i.spaced i.inside) ∙ ap Some (omega arith))
    ∙ cond-true ((length y == 0) || begins_space z) (Some (2 + length t + length y + 2)) None (spaced i.space i.content rest i.spaced i.parted)
    ∙ ap Some size

-- what is read is an instruction
abbrev FoundInstruction : List ℕ → ℕ → Type 0
FoundInstruction x n = (y rest : List ℕ) × (x ≡ y ++ rest) × (n ≡ length y) × IsInstruction y

begins_from_space : (y : List ℕ) → begins_space y ≡ true → (o : ℕ) × (z : List ℕ) × (y ≡ o ∷ z) × (is_space o ≡ true)
begins_from_space [] h = absurd (cc)
begins_from_space (o ∷ z) h = (o, z, refl, h)

-- the white space and the content of an instruction
record Parted (y : List ℕ) (k : ℕ) : Type 0 where
  space : List ℕ
  content : List ℕ
  spaced : AreSpaces space
  parted : ((space ≡ []) × (content ≡ [])) ⊎ (1 ≤ length space)
  inside : HasNo mark content
  whole : take k y ≡ space ++ content

parts : (y : List ℕ) (k : ℕ) → Found mark y k → ((k == 0) || begins_space y) ≡ true → Parted y k
parts y k r h = elim (cases_Bool (k == 0)) [
  | inl t ↦
      let e = eqb-true k 0 t in
      record {
        space = [];
        content = [];
        spaced = tt;
        parted = inl (refl, refl);
        inside = λ a b e. absurd (omega (arith, ap length e, length-append a (mark ++ b)));
        whole = ap (λ (j : ℕ). take j y) e;
      }
  | inr f ↦ more y k r f (begins_from_space y (sym (ap (λ (b : Bool). b || begins_space y) f) ∙ h))
]
  where
    more : (y : List ℕ) (k : ℕ) → Found mark y k → (k == 0) ≡ false → (o : ℕ) × (z : List ℕ) × (y ≡ o ∷ z) × (is_space o ≡ true) → Parted y k
    more y zero r f s = absurd (cc)
    more y (suc k) r f (o, z, e, s) =
        let front : take (suc k) y ≡ o ∷ take k z = ap (λ (u : List ℕ). take (suc k) u) e in
        let len : length (take (suc k) y) ≡ suc k = r.size in
        record {
          space = o ∷ [];
          content = take k z;
          spaced = (s, tt);
          parted = inr (omega arith);
          inside = λ a b h.
              let rest = mark ++ drop 2 (drop (suc k) y) in
              let again : y ≡ (o ∷ a) ++ (mark ++ (b ++ rest)) =
              r.whole ∙ ap (λ (u : List ℕ). u ++ rest) (front ∙ ap (λ (u : List ℕ). o ∷ u) h) ∙ ap (λ (u : List ℕ). o ∷ u) (append_assoc a (mark ++ b) rest) in
              let low = r.none (o ∷ a) (b ++ rest) again in
              absurd (omega (arith, low, len, ap length front, ap length h, length-append a (mark ++ b)));
          whole = front;
        }

pub only_instructions_are_read : OnlyInstructionsAreRead
unfolding instruction
only_instructions_are_read x n h = elim (cases_Bool (starts_with nat_eq x (codes "<?"))) [
  | inl t ↦
      by_name x n (starts_from (codes "<?") x t) (ncname (drop 2 x)) refl (sym (cond-true (starts_with nat_eq x (codes "<?")) _ None t) ∙ h)
  | inr f ↦
      let e = sym (cond-false (starts_with nat_eq x (codes "<?")) (option_and_then (from_target (drop 2 x)) (ncname (drop 2 x))) None f) ∙ h in absurd (cc)
]
  where
    by_parts : (x y : List ℕ) (n j k : ℕ) → x ≡ codes "<?" ++ y → ReadNcName y j → is_reserved (take j y) ≡ false → Found mark (drop j y) k
        → Parted (drop j y) k → n ≡ 2 + j + k + 2 → FoundInstruction x n
    by_parts x y n j k w r other s p size =
        let t = take j y in
        let z = drop j y in
        let rest = drop 2 (drop k z) in
        let body = p.space ++ (p.content ++ mark) in
        let inner : z ≡ body ++ rest =
        s.whole ∙ ap (λ (u : List ℕ). u ++ (mark ++ rest)) p.whole ∙ append_assoc p.space p.content (mark ++ rest)
        ∙ ap (λ (u : List ℕ). p.space ++ u) (sym (append_assoc p.content mark rest)) ∙ sym (append_assoc p.space (p.content ++ mark) rest) in
        let whole : x ≡ (codes "<?" ++ (t ++ body)) ++ rest =
        w ∙ ap (λ (u : List ℕ). codes "<?" ++ u) (sym (take-append-drop j y) ∙ ap (λ (u : List ℕ). t ++ u) inner ∙ sym (append_assoc t body rest)) in
        let lt : length t ≡ j = length-take-le j y r.inside in
        let lk : length (take k z) ≡ k = s.size in (
          codes "<?" ++ (t ++ body),
          rest,
          whole,
          omega (arith, size, lt, lk, ap length p.whole, length-append t body, length-append p.space (p.content ++ mark), length-append p.content mark, length-append p.space p.content),
          record {
            target = t;
            space = p.space;
            content = p.content;
            name = r.is;
            other = other;
            spaced = p.spaced;
            parted = p.parted;
            inside = p.inside;
            whole = refl;
          },
        )

    by_mark : (x y : List ℕ) (n j : ℕ) → x ≡ codes "<?" ++ y → ReadNcName y j → is_reserved (take j y) ≡ false → (q : Option ℕ)
        → find mark 0 (drop j y) ≡ q → option_and_then (to_end j (drop j y)) q ≡ Some n → FoundInstruction x n
    by_mark x y n j w r other None e h = absurd (cc)
    by_mark x y n j w r other (Some m) e h =
        let z = drop j y in
        let (k, at, s) = find_found mark (λ b. refl) 0 z m e in
        let P : ℕ → Type 0 = Found mark z in
        let eq : k ≡ m = omega (arith, at) in
        let b = (m == 0) || begins_space z in
        elim (cases_Bool b) [
          | inl t ↦
              let same = some_same (2 + j + m + 2) n (sym (cond-true b (Some (2 + j + m + 2)) None t) ∙ h) in
              by_parts x y n j m w r other (subst P eq s) (parts z m (subst P eq s) t) (sym same)
          | inr f ↦ let e = sym (cond-false b (Some (2 + j + m + 2)) None f) ∙ h in absurd (cc)
        ]

    by_name : (x : List ℕ) (n : ℕ) → x ≡ codes "<?" ++ drop 2 x → (q : Option ℕ) → ncname (drop 2 x) ≡ q
        → option_and_then (from_target (drop 2 x)) q ≡ Some n → FoundInstruction x n
    by_name x n w None e h = absurd (cc)
    by_name x n w (Some j) e h =
        let y = drop 2 x in
        elim (cases_Bool (is_reserved (take j y))) [
          | inr f ↦
              by_mark x y n j w (ncname_found y j e) f (find mark 0 (drop j y)) refl
              (sym (cond-false (is_reserved (take j y)) None _ f) ∙ h)
          | inl t ↦
              let e = sym (cond-true (is_reserved (take j y)) None (option_and_then (to_end j (drop j y)) (find mark 0 (drop j y))) t) ∙ h in absurd (cc)
        ]
